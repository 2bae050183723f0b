-- A quotient by multiplication: so many parts of a whole stand for the divisor.
use Rattle.std.proofs.Common.{◌≡◌, ℕ, ◌+◌, ◌-◌, ◌*◌, ◌/◌, ◌<◌, ◌≤◌, ap, ◌∙◌, arith, ◌⊎◌, inl, inr}
use Rattle.std.proofs.Math.Nat.{mul-le-mul_left, div-mul-le_self, lt-div-mul-add}
use Rattle.std.proofs.lemmas.Nat.{div-mul-add, mul-le}
use Rattle.std.proofs.lemmas.Bool.{cases_lt}
use Rattle.argb_pixel.specs.Pixel.{rounded}
use Rattle.argb_pixel.proofs.Rounded.{rounded_mono, rounded_whole}

-- the product lies between the quotient's multiple of the whole and the next one
pub record IsShare (whole x n part : ℕ) : Type 0 where
  pub low : x / n * whole ≤ x * part
  pub high : x * part < (x / n + 1) * whole

pub share_is : (whole x n part : ℕ) → 0 < n → part ≡ whole / n + 1 → x * n < whole → IsShare whole x n part
share_is whole x n part some is few = record { low = low; high = by (cases_lt (x * part) ((x / n + 1) * whole)) }
  where
    above : whole ≤ n * part
    above = omega (arith, lt-div-mul-add {a = whole} some, ap (λ p. n * p) is)

    below : n * part ≤ whole + n
    below = omega (arith, div-mul-le_self whole n, ap (λ p. n * p) is)

    quotient : x / n * n ≤ x
    quotient = div-mul-le_self x n

    next : x + 1 ≤ (x / n + 1) * n
    next = omega (arith, lt-div-mul-add {a = x} some)

    low : x / n * whole ≤ x * part
    low = omega (arith, mul-le-mul_left (x / n) above, mul-le-mul_left part quotient)

    by : (x * part < (x / n + 1) * whole) ⊎ ((x / n + 1) * whole ≤ x * part) → x * part < (x / n + 1) * whole
    by (inl less) = less
    by (inr more) = absurd (omega (arith, mul-le-mul_left n more, mul-le-mul_left x below, few, mul-le-mul_left whole next))

pub quotient_is : (whole x n part : ℕ) → IsShare whole x n part → x * part / whole ≡ x / n
quotient_is whole x n part is =
    let rest : ℕ = x * part - x / n * whole in
    let apart : x * part ≡ x / n * whole + rest = omega (arith, is.low) in
    ap (λ p. p / whole) apart ∙ div-mul-add (x / n) whole rest (omega (arith, is.low, is.high))

-- a rounded mean of at most 66,049 channels, in parts of 2^48
pub share_within : (sum count part : ℕ) → 0 < count → count ≤ 66049 → part ≡ 281474976710656 / count + 1 → sum ≤ 32768 * count
    → IsShare 281474976710656 (sum + count / 2) count part × (rounded sum count ≤ 32768)
share_within sum count part some few is within =
    let square : count * count ≤ 66049 * 66049 = mul-le count count 66049 66049 few few in
    let product : (sum + count / 2) * count < 281474976710656 =
    omega (arith, square, mul-le-mul_left count within, mul-le-mul_left {m = count / 2} {n = count} count (omega arith)) in
    (share_is 281474976710656 (sum + count / 2) count part some is product, omega (arith, rounded_mono sum (32768 * count) count some within, rounded_whole 32768 count some))
