-- A share of a change lies between nothing and the change, and an eased change has at most all its parts.
use Rattle.std.proofs.Common.{◌≡◌, ℕ, zero, suc, ◌+◌, ◌-◌, ◌*◌, ◌/◌, ◌^◌, ◌<◌, ◌≤◌, ℤ, pos, negsuc, ◌*ℤ◌, ◌+ℤ◌, ◌-ℤ◌, refl, ◌∙◌, arith, lit<, to_z, of_z}
use Rattle.std.specs.Prelude.{unsigned_abs}
use Rattle.std.specs.Int.{w128, int_div_euclid}
use Rattle.std.proofs.lemmas.Int.{ints, by_lt_z, fits_signed_from_abs, fits_signed_mul, to_z-of_z}
use Rattle.std.proofs.Math.Nat.{div-le_of_le-mul, div-lt_iff_lt-mul, mul-le-mul_left, mul-zero, zero-div}
use Rattle.rational_time.specs.Times.{floor_of}
use Rattle.param_stream.specs.declared.key.Ease.{Ease}
use Rattle.param_stream.specs.declared.key.Ease.TheVariants.{Linear, Smooth}
use Rattle.param_stream.specs.Curve.{IsBetween, eased_part, value_between}
use Rattle.param_stream.specs.Share.{IsShare}

pub share_lem : (change : ℤ) (part whole : ℕ) → 1 ≤ whole → part ≤ whole → IsShare change (floor_of (change *ℤ pos part) (pos whole))
share_lem (pos d) part whole some h =
    let low : d * part / whole ≤ d = div-le_of_le-mul whole (let more = mul-le-mul_left d h in omega arith) in
    record {
      rising = λ up. (omega (arith, ints), omega (arith, ints));
      falling = λ down. let none : d ≡ 0 = omega (arith, ints) in (omega (arith, ints, low), omega (arith, ints, low));
    }
share_lem (negsuc d) zero whole some h =
    let none : floor_of (negsuc d *ℤ pos zero) (pos whole) ≡ pos 0 = rw (mul-zero, zero-div) refl in
    record {
      rising = λ up. absurd (omega (arith, ints));
      falling = λ down. rw none (omega (arith, ints), omega (arith, ints));
    }
share_lem (negsuc d) (suc p) whole some h =
    let e : suc d * suc p ≡ suc (d * suc p + p) = omega arith in
    let more = mul-le-mul_left (suc d) h in
    let small : d * suc p + p < suc d * whole = omega arith in
    let low : (d * suc p + p) / whole < suc d = (div-lt_iff_lt-mul some).1 small in
    let is : floor_of (negsuc d *ℤ pos (suc p)) (pos whole) ≡ negsuc ((d * suc p + p) / whole) = rw e refl in
    record {
      rising = λ up. absurd (omega (arith, ints));
      falling = λ down. rw is (omega (arith, ints), omega (arith, ints));
    }

-- what begins at one number within bounds and changes by a share of the way to another within them stays within them
pub share_within : (low high from to share : ℤ) → IsShare (to -ℤ from) share → IsBetween low high from → IsBetween low high to → IsBetween low high (from +ℤ share)
share_within low high from to share h a b =
    by_lt_z (to -ℤ from) (pos 0)
    (λ down. let s = h.falling (omega (arith, ints)) in (omega (arith, ints, s.0, a.0, b.0), omega (arith, ints, s.1, a.1, b.1)))
    (λ up. let s = h.rising up in (omega (arith, ints, s.0, a.0, b.0), omega (arith, ints, s.1, a.1, b.1)))

-- the cubic at u of u + v parts
cubic : (u v : ℕ) → u * u * (u + 3 * v) ≤ (u + v) * (u + v) * (u + v)
cubic u v = omega arith

pub eased_small : (u : ℕ) → u ≤ 65536 → u * u * (196608 - 2 * u) ≤ 281474976710656
eased_small u h =
    let v : ℕ = 65536 - u in
    let all : u + v ≡ 65536 = omega arith in
    let part : 196608 - 2 * u ≡ u + 3 * v = omega arith in
    let cube : (u + v) * (u + v) * (u + v) ≡ 281474976710656 = rw all refl in
    rw part (omega (arith, cubic u v, cube))

pub eased_most : (u : ℕ) → u ≤ 65536 → u * u * (196608 - 2 * u) / 4294967296 ≤ 65536
eased_most u h = div-le_of_le-mul 4294967296 (eased_small u h)

-- an eased part of natural numbers
pub eased_is : (run span u : ℕ) → u ≡ 65536 * run / span → u ≤ 65536 → eased_part (pos run) (pos span) ≡ pos (u * u * (196608 - 2 * u) / 4294967296)
eased_is run span u e h =
    let rest : (pos 196608 -ℤ (pos 2 *ℤ pos u)) ≡ pos (196608 - 2 * u) = omega (arith, ints) in
    rw (← e) (rw rest refl)

pub parts_over : (run span : ℕ) → run < span → 65536 * run / span ≤ 65536
parts_over run span h = div-le_of_le-mul span (omega (arith, mul-le-mul_left 65536 h))

-- a share is no larger than the change
pub share_small : (change share : ℤ) (n : ℕ) → IsShare change share → unsigned_abs change ≤ n → unsigned_abs share ≤ n
share_small change share n h small =
    by_lt_z change (pos 0)
    (λ down. let s = h.falling (omega (arith, ints)) in omega (arith, ints, s.0, s.1))
    (λ up. let s = h.rising up in omega (arith, ints, s.0, s.1))

-- the quotient that 128 bits hold
pub wide_floor : (change : ℤ) (part whole : ℕ) (a b c r : ℤ) → a ≡ change → b ≡ pos part → c ≡ pos whole → unsigned_abs change ≤ 2 ^ 41 → part ≤ 2 ^ 50 → whole ≤ 2 ^ 50 → r ≡ int_div_euclid (to_z w128 (of_z w128 (to_z w128 (of_z w128 a) *ℤ to_z w128 (of_z w128 b)))) (to_z w128 (of_z w128 c)) → r ≡ floor_of (change *ℤ pos part) (pos whole)
wide_floor change part whole a b c r e f g small few more is =
    let fits_change = fits_signed_from_abs w128 change (omega (arith, small)) in
    let fits_part = fits_signed_from_abs w128 (pos part) (omega (arith, few)) in
    let fits_whole = fits_signed_from_abs w128 (pos whole) (omega (arith, more)) in
    let fits = fits_signed_mul w128 change (pos part) (2 ^ 41) (2 ^ 50) small few (lit< tt) in
    is ∙ rw (e, f, g, to_z-of_z w128 change fits_change, to_z-of_z w128 (pos part) fits_part, to_z-of_z w128 (pos whole) fits_whole, to_z-of_z w128 (change *ℤ pos part) fits) refl

pub linear_is : (kind : Ease) (from to change r s share : ℤ) (run span : ℕ) → kind ≡ Linear → change ≡ to -ℤ from → pos run ≡ r → pos span ≡ s → share ≡ floor_of (change *ℤ pos run) (pos span) → from +ℤ share ≡ value_between kind from to r s
linear_is kind from to change r s share run span k e f g is = rw (k, is, e, f, g) refl

pub smooth_is : (kind : Ease) (from to change r s share : ℤ) (run span part : ℕ) → kind ≡ Smooth → change ≡ to -ℤ from → pos run ≡ r → pos span ≡ s → pos part ≡ eased_part (pos run) (pos span) → share ≡ floor_of (change *ℤ pos part) (pos 65536) → from +ℤ share ≡ value_between kind from to r s
smooth_is kind from to change r s share run span part k e f g p is = rw (k, is, e, p, ← f, ← g) refl
