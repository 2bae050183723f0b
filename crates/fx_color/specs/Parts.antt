-- What lies between two numbers is no more than the greater.
use Rattle.std.specs.Prelude.{unsigned_abs}
use Rattle.std.proofs.lemmas.Int.{ints, unsigned_abs-mul}
use Rattle.std.proofs.Common.{◌≡◌, ℕ, ℤ, pos, negsuc, neg_ℤ, ◌*ℤ◌, ◌≤ℤ◌, ◌+◌, ◌-◌, ◌*◌, ◌/◌, ◌≤◌, ap, sym, ◌∙◌, arith}
use Rattle.std.proofs.Math.Nat.{mul-le-mul, mul-le-mul_right, mul-add}

-- a mix of two numbers that are at most `a`
pub mixed_within : (a x y m : ℕ) → x ≤ a → y ≤ a → m ≤ 10000 → (x * (10000 - m) + y * m + 5000) / 10000 ≤ a
mixed_within a x y m p q r =
    let first : x * (10000 - m) ≤ a * (10000 - m) = mul-le-mul_right (10000 - m) p in
    let second : y * m ≤ a * m = mul-le-mul_right m q in
    let whole : a * (10000 - m) + a * m ≡ a * 10000 = sym (mul-add a (10000 - m) m) ∙ ap (λ n. a * n) (omega arith) in
    omega (arith, first, second, whole)

-- what lies so far between two ends that are at most 10000
pub mean_within : (a l black white : ℕ) → l ≤ a → black ≤ 10000 → white ≤ 10000 → (black * (a - l) + white * l + 5000) / 10000 ≤ a
mean_within a l black white p q r =
    let first : black * (a - l) ≤ 10000 * (a - l) = mul-le-mul_right (a - l) q in
    let second : white * l ≤ 10000 * l = mul-le-mul_right l r in
    omega (arith, first, second, p)

abs_within : (z : ℤ) (n : ℕ) → neg_ℤ (pos n) ≤ℤ z → z ≤ℤ pos n → unsigned_abs z ≤ n
abs_within (pos m) n low high = omega (arith, ints)
abs_within (negsuc m) n low high = omega (arith, ints)

-- a channel times a number
pub product_bound : (c : ℕ) (z : ℤ) → c ≤ 32768 → neg_ℤ (pos 40000) ≤ℤ z → z ≤ℤ pos 40000 → unsigned_abs (pos c *ℤ z) ≤ 1310720000
product_bound c z few low high =
    let product : c * unsigned_abs z ≤ 32768 * 40000 = mul-le-mul few (abs_within z 40000 low high) in
    rw (unsigned_abs-mul (pos c) z) (omega (arith, product))
