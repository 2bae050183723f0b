-- A share of a change lies between nothing and the whole change.
use Rattle.std.specs.Prelude.{ℤ, pos, ◌≤ℤ◌}

pub record IsShare (change share : ℤ) : Type 0 where
  pub rising : pos 0 ≤ℤ change → (pos 0 ≤ℤ share) × (share ≤ℤ change)
  pub falling : change ≤ℤ pos 0 → (change ≤ℤ share) × (share ≤ℤ pos 0)
