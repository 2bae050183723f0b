-- How far Offset and Displace look.
use Rattle.std.proofs.Common.{◌≡◌, ℕ, ◌-◌, ◌*◌, ◌/◌, ◌%◌, ◌<◌, ◌≤◌, ℤ, pos, negsuc, neg_ℤ, ◌-ℤ◌, ◌*ℤ◌, ◌≤ℤ◌, ◌<ℤ◌, refl, subst, sym, arith}
use Rattle.std.specs.Prelude.{unsigned_abs}
use Rattle.std.specs.Int.{int_rem_euclid}
use Rattle.std.proofs.lemmas.Int.{ints, unsigned_abs-mul}
use Rattle.std.proofs.Math.Nat.{mul-le-mul_left, div-le_of_le-mul, div-lt_iff_lt-mul, mod-lt}
use Rattle.rational_time.specs.Times.{floor_of}
use Rattle.geom_rect.specs.Rect.{positive_part, count_between}
use Rattle.fx_spatial.specs.Offset.{wrapped}
use Rattle.fx_spatial.specs.Displace.{moved}

pub abs_within : (z : ℤ) (n : ℕ) → neg_ℤ (pos n) ≤ℤ z → z ≤ℤ pos n → unsigned_abs z ≤ n
abs_within (pos m) n low high = omega (arith, ints)
abs_within (negsuc m) n low high = omega (arith, ints)

pub within_abs : (z : ℤ) (n : ℕ) → unsigned_abs z ≤ n → (neg_ℤ (pos n) ≤ℤ z) × (z ≤ℤ pos n)
within_abs (pos m) n h = (omega (arith, ints, h), omega (arith, ints, h))
within_abs (negsuc m) n h = (omega (arith, ints, h), omega (arith, ints, h))

floor_within : (p : ℤ) (n most : ℕ) → 0 < most → unsigned_abs p ≤ n * most → unsigned_abs (floor_of p (pos most)) ≤ n
floor_within (pos k) n most some h = div-le_of_le-mul most (omega (arith, h))
floor_within (negsuc k) n most some h =
    let less : k < n * most = omega (arith, h) in
    let low : k / most < n = (div-lt_iff_lt-mul some).1 less in
    omega (arith, low)

-- no further than the furthest
pub moved_within : (most : ℕ) (furthest : ℤ) (colour alpha : ℕ) → 0 < most → colour ≤ alpha → alpha ≤ most
    → unsigned_abs (moved most furthest colour alpha) ≤ unsigned_abs furthest
moved_within most furthest colour alpha some part whole =
    floor_within (furthest *ℤ (pos (2 * colour) -ℤ pos alpha)) (unsigned_abs furthest) most some
    (subst (λ (n : ℕ). n ≤ unsigned_abs furthest * most) (sym (unsigned_abs-mul furthest (pos (2 * colour) -ℤ pos alpha)))
    (mul-le-mul_left (unsigned_abs furthest) (abs_within (pos (2 * colour) -ℤ pos alpha) most (omega (arith, ints)) (omega (arith, ints)))))

-- a remainder is never negative, and below what is divided by
pub rem_is : (z : ℤ) (n : ℕ) → 0 < n → (r : ℕ) × (int_rem_euclid z (pos n) ≡ pos r) × (r < n)
rem_is (pos a) n some = (a % n, refl, mod-lt a some)
rem_is (negsuc a) n some = (n - 1 - a % n, refl, omega (arith, some))

pub wrapped_within : (low high z : ℤ) → low <ℤ high → (low ≤ℤ wrapped low (count_between low high) z) × (wrapped low (count_between low high) z <ℤ high)
wrapped_within low high z room = by (count_between low high) (count_is (high -ℤ low) (omega (arith, ints, room)))
  where
    count_is : (d : ℤ) → pos 0 ≤ℤ d → pos (positive_part d) ≡ d
    count_is (pos n) h = refl
    count_is (negsuc n) h = absurd (omega (arith, ints, h))

    by : (n : ℕ) → pos n ≡ high -ℤ low → (low ≤ℤ wrapped low n z) × (wrapped low n z <ℤ high)
    by n is =
        let r = rem_is (z -ℤ low) n (omega (arith, ints, is, room)) in
        (omega (arith, ints, r.1), omega (arith, ints, r.1, r.2, is))
