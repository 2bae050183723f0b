-- A picture that is moved within its extent: a row of it is two rows of the picture, one after the other.
use Rattle.std.proofs.Common.{◌≡◌, ℕ, suc, ◌+◌, ◌-◌, ◌*◌, ◌/◌, ◌%◌, ◌<◌, ◌≤◌, ℤ, pos, negsuc, ◌+ℤ◌, ◌-ℤ◌, ◌≤ℤ◌, ◌<ℤ◌, refl, ap, sym, ◌∙◌, arith}
use Rattle.std.specs.Int.{int_rem_euclid}
use Rattle.std.proofs.lemmas.Int.{ints, int_rem_euclid_is}
use Rattle.std.proofs.lemmas.Nat.{mod-mul-add}
use Rattle.std.proofs.Math.Nat.{mul-le-mul_left, div-add-mod, mod-lt}
use Rattle.geom_rect.specs.Rect.{positive_part}
use Rattle.fx_spatial.specs.Offset.{wrapped}
use Rattle.fx_spatial.specs.Moved.{rem_is}

-- some multiple of a number makes another no longer negative
raised : (z : ℤ) (n : ℕ) → 0 < n → (k : ℕ) × (m : ℕ) × (z +ℤ pos (k * n) ≡ pos m)
raised (pos a) n some = (0, a, omega (arith, ints))
raised (negsuc a) n some =
    let more : suc a * 1 ≤ suc a * n = mul-le-mul_left (suc a) some in
    (suc a, suc a * n - suc a, omega (arith, ints, more))

-- c is how far the point is from the low side, and turn how far the picture is moved, both below n
turned : (low dx u : ℤ) (n turn c : ℕ) → 0 < n → int_rem_euclid dx (pos n) ≡ pos turn → pos c ≡ u -ℤ low → c < n
    → (c < turn → wrapped low n (u -ℤ dx) ≡ u +ℤ (pos n -ℤ pos turn)) × (turn ≤ c → wrapped low n (u -ℤ dx) ≡ u -ℤ pos turn)
turned low dx u n turn c some is place below = (before, after)
  where
    up : (k : ℕ) × (m : ℕ) × (dx +ℤ pos (k * n) ≡ pos m)
    up = raised dx n some

    k : ℕ
    k = up.0

    m : ℕ
    m = up.1

    q : ℕ
    q = m / n

    turn_is : pos turn ≡ pos (m % n)
    turn_is = sym is ∙ int_rem_euclid_is dx (pos n) n k m some refl up.2

    few : turn < n
    few = omega (arith, ints, turn_is, mod-lt m some)

    whole : n * q + turn ≡ m
    whole = (let same : turn ≡ m % n = omega (arith, ints, turn_is) in omega (arith, div-add-mod m n, same))

    before : c < turn → wrapped low n (u -ℤ dx) ≡ u +ℤ (pos n -ℤ pos turn)
    before less =
        let at : ℕ = c + n - turn in
        let far : ((u -ℤ dx) -ℤ low) +ℤ pos (suc q * n) ≡ pos (k * n + at) = omega (arith, ints, up.2, whole, place, less, few) in
        let rem = int_rem_euclid_is ((u -ℤ dx) -ℤ low) (pos n) n (suc q) (k * n + at) some refl far ∙ ap pos (mod-mul-add k n at (omega (arith, less, few))) in
        let sum : low +ℤ pos (c + n - turn) ≡ u +ℤ (pos n -ℤ pos turn) = omega (arith, ints, place, few) in
        ap (λ (r : ℤ). low +ℤ r) rem ∙ sum

    after : turn ≤ c → wrapped low n (u -ℤ dx) ≡ u -ℤ pos turn
    after more =
        let at : ℕ = c - turn in
        let far : ((u -ℤ dx) -ℤ low) +ℤ pos (q * n) ≡ pos (k * n + at) = omega (arith, ints, up.2, whole, place, more) in
        let rem = int_rem_euclid_is ((u -ℤ dx) -ℤ low) (pos n) n q (k * n + at) some refl far ∙ ap pos (mod-mul-add k n at (omega (arith, below))) in
        let sum : low +ℤ pos (c - turn) ≡ u -ℤ pos turn = omega (arith, ints, place, more) in
        ap (λ (r : ℤ). low +ℤ r) rem ∙ sum

counted : (z : ℤ) → pos 0 ≤ℤ z → pos (positive_part z) ≡ z
counted (pos n) l = refl
counted (negsuc n) l = absurd (omega (arith, ints, l))

-- what is moved out on the right comes in on the left; the others are moved
pub wrapped_left : (low dx u : ℤ) (n turn : ℕ) → 0 < n → int_rem_euclid dx (pos n) ≡ pos turn → low ≤ℤ u → u <ℤ (low +ℤ pos turn)
    → wrapped low n (u -ℤ dx) ≡ u +ℤ (pos n -ℤ pos turn)
wrapped_left low dx u n turn some is from to =
    let c_is = counted (u -ℤ low) (omega (arith, ints, from)) in
    let rest = rem_is dx n some in
    (turned low dx u n turn (positive_part (u -ℤ low)) some is c_is (omega (arith, ints, c_is, to, is, rest.1, rest.2))).0 (omega (arith, ints, c_is, to))

pub wrapped_right : (low dx u : ℤ) (n turn : ℕ) → 0 < n → int_rem_euclid dx (pos n) ≡ pos turn → (low +ℤ pos turn) ≤ℤ u → u <ℤ (low +ℤ pos n)
    → wrapped low n (u -ℤ dx) ≡ u -ℤ pos turn
wrapped_right low dx u n turn some is from to =
    let c_is = counted (u -ℤ low) (omega (arith, ints, from)) in
    (turned low dx u n turn (positive_part (u -ℤ low)) some is c_is (omega (arith, ints, c_is, to))).1 (omega (arith, ints, c_is, from))
