use Rattle.std.proofs.Common.{◌≤◌, ◌^◌, ◌<◌, ℕ, lit<, arith}
use Rattle.std.proofs.Math.Nat.{pow-le-pow_right}
use Rattle.run_words.proofs.words.number_of_digits.Goals as goal

few_digits : (i : ℕ) → i < 13 → 10 ^ i ≤ 1000000000000
few_digits i h = let few : i ≤ 12 = omega arith in pow-le-pow_right {n = 10} (lit< tt) {i = i} {j = 12} few

pub overflow_mul-number : goal.overflow_mul-number
overflow_mul-number c = omega (arith, few_digits c.digits.digit-index (omega arith))

pub overflow_add-number : goal.overflow_add-number
overflow_add-number c = omega (arith, few_digits c.digits.digit-index (omega arith))
