-- The greatest common divisor, in the form from which the least common multiple follows.
use Rattle.std.specs.Prelude.{ℕ, ◌*◌}
use Rattle.std.specs.Int.{◌∣◌}

-- g divides both numbers, and what divides a multiple of each divides that multiple of g
pub record IsMeasure (a b g : ℕ) : Type 0 where
  pub first : g ∣ a
  pub second : g ∣ b
  pub combined : (n m : ℕ) → n ∣ m * a → n ∣ m * b → n ∣ m * g
