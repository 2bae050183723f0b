-- Products that fit, and quotients rounded towards minus infinity.
use Rattle.std.proofs.Common.{◌≡◌, ℕ, zero, suc, ◌+◌, ◌-◌, ◌*◌, ◌/◌, ◌^◌, ◌<◌, ◌≤◌, ℤ, pos, negsuc, neg_ℤ, ◌*ℤ◌, ◌+ℤ◌, ◌≤ℤ◌, ◌<ℤ◌, refl, ◌∙◌, subst, ap, arith, lit<, to_z, of_z, w64}
use Rattle.std.specs.Prelude.{unsigned_abs}
use Rattle.std.specs.Int.{◌∣◌}
use Rattle.std.proofs.lemmas.Int.{ints, fits_signed_mul, fits_signed_from_abs, to_z-of_z}
use Rattle.std.proofs.Math.Nat.{div-mul-le_self, lt-div-mul-add, div-eq_of_lt-le, mul-div_cancel, mul-div_cancel', mul-le-mul_right, zero-mul}
use Rattle.std.specs.declared.cmp.Ordering.{Ordering}
use Rattle.std.specs.Ordering.{MatchOrdering, int_cmp}
use Rattle.std.specs.Cmp.{int_ranks}
use Rattle.rational_time.specs.Times.{IsFloor, floor_of}

pub wide_product : (v : ℤ) (k : ℕ) (a b : ℤ) → a ≡ v → b ≡ pos k → unsigned_abs v ≤ 2 ^ 31 → k < 2 ^ 32 → to_z w64 (of_z w64 (to_z w64 (of_z w64 a) *ℤ to_z w64 (of_z w64 b))) ≡ v *ℤ pos k
wide_product v k a b e f small few =
    let fits_v = fits_signed_from_abs w64 v (omega (arith, small)) in
    let fits_k = fits_signed_from_abs w64 (pos k) (omega (arith, few)) in
    let fits = fits_signed_mul w64 v (pos k) (2 ^ 31) (2 ^ 32 - 1) small (omega (arith, few)) (lit< tt) in
    rw (e, f, to_z-of_z w64 v fits_v, to_z-of_z w64 (pos k) fits_k) (to_z-of_z w64 (v *ℤ pos k) fits)

pub negated-product : (n k : ℕ) → neg_ℤ (pos n) *ℤ pos k ≡ neg_ℤ (pos (n * k))
negated-product zero k = rw zero-mul refl
negated-product (suc n) k = refl

abs-negated : (n : ℕ) → unsigned_abs (neg_ℤ (pos n)) ≡ n
abs-negated zero = refl
abs-negated (suc n) = refl

pub abs-product : (v : ℤ) (k : ℕ) → unsigned_abs (v *ℤ pos k) ≡ unsigned_abs v * k
abs-product (pos a) k = refl
abs-product (negsuc a) k = abs-negated (suc a * k)

scaled : (a base scale : ℕ) → scale ∣ base → a * (base / scale) * scale ≡ a * base
scaled a base scale d =
    let whole : scale * (base / scale) ≡ base = mul-div_cancel' scale d in
    let more = ap (λ (n : ℕ). a * n) whole in
    omega arith

pub scaled_up : (v : ℤ) (base scale : ℕ) → scale ∣ base → (v *ℤ pos (base / scale)) *ℤ pos scale ≡ v *ℤ pos base
scaled_up (pos a) base scale d = ap pos (scaled a base scale d)
scaled_up (negsuc a) base scale d =
    negated-product (suc a * (base / scale)) scale ∙ ap (λ (n : ℕ). neg_ℤ (pos n)) (scaled (suc a) base scale d)

pub scaled_near : (a base scale : ℕ) → scale ∣ base → a ≤ 36000 * scale → a * (base / scale) ≤ 36000 * base
scaled_near a base scale d near =
    let whole : scale * (base / scale) ≡ base = mul-div_cancel' scale d in
    let more = mul-le-mul_right (base / scale) near in
    omega arith

pub floor_lem : (x y : ℤ) → pos 1 ≤ℤ y → IsFloor x y (floor_of x y)
floor_lem (pos a) (pos b) h =
    let some : 0 < b = omega (arith, ints) in
    let low = div-mul-le_self a b in
    let high = lt-div-mul-add {a = a} {b = b} some in
    record { at_most = omega (arith, ints); next_above = omega (arith, ints) }
floor_lem (negsuc a) (pos b) h =
    let some : 0 < b = omega (arith, ints) in
    let low = div-mul-le_self a b in
    let high = lt-div-mul-add {a = a} {b = b} some in
    let next : (negsuc (a / b) +ℤ pos 1) ≡ neg_ℤ (pos (a / b)) = omega (arith, ints) in
    record { at_most = omega (arith, ints); next_above = rw (next, negated-product (a / b) b) (omega (arith, ints)) }
floor_lem x (negsuc b) h = absurd (omega (arith, ints))

pub floor-product : (n f : ℤ) → pos 1 ≤ℤ f → floor_of (n *ℤ f) f ≡ n
floor-product (pos k) (pos m) h = ap pos (mul-div_cancel k (omega (arith, ints)))
floor-product (negsuc k) (pos (suc m)) h =
    let e : suc k * suc m ≡ suc (k * suc m + m) = omega arith in
    rw e (ap negsuc (div-eq_of_lt-le (suc m) (omega arith) (omega arith)))
floor-product (negsuc k) (pos zero) h = absurd (omega (arith, ints))
floor-product n (negsuc b) h = absurd (omega (arith, ints))

-- a comparison of two numbers that are these
pub ordered : (r : Ordering) (x y x' y' : ℤ) → x' ≡ x → y' ≡ y → r ≡ int_cmp x' y' → MatchOrdering r (x <ℤ y) (x ≡ y) (y <ℤ x)
ordered r x y x' y' e f g =
    let same : int_cmp x y ≡ r = cc in
    subst (λ (o : Ordering). MatchOrdering o (x <ℤ y) (x ≡ y) (y <ℤ x)) same (int_ranks x y)
