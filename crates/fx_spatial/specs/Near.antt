-- Rectangles that stay near another: covers, and what they are grown to.
use Rattle.std.proofs.Common.{◌≡◌, ℕ, ◌≤◌, ℤ, pos, neg_ℤ, ◌-ℤ◌, ◌≤ℤ◌, Bool, true, false, if◌then◌else◌, refl, sym, ◌∙◌, arith}
use Rattle.std.proofs.lemmas.Int.{ints}
use Rattle.geom_rect.specs.declared.rect.Rect.{Rect}
use Rattle.geom_rect.specs.Rect.{Has, HasNear, IsWithin, is_empty, origin, hull_of, cover_of, shift_of, grow_of}
use Rattle.geom_rect.proofs.Points.{no_point_from_true, empty_within, within_itself, within-hull_left, within-hull_right, hull-within, room_from_false, near_corner, grown, Has-grow_of}

-- at most so far to either side
abbrev pub IsFar : ℕ → ℤ → Type 0
IsFar n z = (neg_ℤ (pos n) ≤ℤ z) × (z ≤ℤ pos n)

-- from 0 to 10000
abbrev pub IsShare : ℤ → Type 0
IsShare z = (pos 0 ≤ℤ z) × (z ≤ℤ pos 10000)

differ : true ≡ false → ⊥
differ e = cc

pub cover_first : (a b : Rect) → IsWithin a (cover_of a b)
cover_first a b = by (is_empty a) refl (is_empty b) refl
  where
    by : (s : Bool) → is_empty a ≡ s → (t : Bool) → is_empty b ≡ t → IsWithin a (if s then (if t then origin else b) else (if t then a else hull_of a b))
    by true e t f = empty_within a (if t then origin else b) e
    by false e true f = within_itself a
    by false e false f = within-hull_left a b

pub cover_second : (a b : Rect) → IsWithin b (cover_of a b)
cover_second a b = by (is_empty a) refl (is_empty b) refl
  where
    by : (s : Bool) → is_empty a ≡ s → (t : Bool) → is_empty b ≡ t → IsWithin b (if s then (if t then origin else b) else (if t then a else hull_of a b))
    by s e true f = empty_within b (if s then origin else a) f
    by true e false f = within_itself b
    by false e false f = within-hull_right a b

pub cover_least : (a b r : Rect) → IsWithin a r → IsWithin b r → IsWithin (cover_of a b) r
cover_least a b r first second = by (is_empty a) refl (is_empty b) refl
  where
    by : (s : Bool) → is_empty a ≡ s → (t : Bool) → is_empty b ≡ t → IsWithin (if s then (if t then origin else b) else (if t then a else hull_of a b)) r
    by true e true f = empty_within origin r refl
    by true e false f = second
    by false e true f = first
    by false e false f = hull-within a b r (room_from_false a e) (room_from_false b f) first second

-- an empty cover is at the origin
pub cover_none : (a b : Rect) → is_empty (cover_of a b) ≡ true → cover_of a b ≡ origin
cover_none a b = by (is_empty a) refl (is_empty b) refl
  where
    by : (s : Bool) → is_empty a ≡ s → (t : Bool) → is_empty b ≡ t → is_empty (if s then (if t then origin else b) else (if t then a else hull_of a b)) ≡ true
        → (if s then (if t then origin else b) else (if t then a else hull_of a b)) ≡ origin
    by true e true f none = refl
    by true e false f none = absurd (differ (sym none ∙ f))
    by false e true f none = absurd (differ (sym none ∙ e))
    by false e false f none =
        absurd (no_point_from_true (hull_of a b) none a.left a.top (within-hull_left a b a.left a.top (near_corner a (room_from_false a e))))

-- what is grown to nothing was nothing
pub grow_none : (a : Rect) (n : ℕ) → is_empty (grow_of a (pos n)) ≡ true → grow_of a (pos n) ≡ a
grow_none a n = by (is_empty a) refl
  where
    by : (s : Bool) → is_empty a ≡ s → is_empty (if s then a else grown a (pos n)) ≡ true → (if s then a else grown a (pos n)) ≡ a
    by true e none = refl
    by false e none =
        let room = room_from_false a e in
        absurd (no_point_from_true (grown a (pos n)) none a.left a.top
        (omega (arith, ints), omega (arith, ints, room.across), omega (arith, ints), omega (arith, ints, room.down)))

-- a point is near itself
pub near_itself : (a : Rect) (n : ℕ) (x y : ℤ) → Has a x y → HasNear a (pos n) x y
near_itself a n x y h = (x, y, h, (omega (arith, ints), omega (arith, ints)), (omega (arith, ints), omega (arith, ints)))

-- what is grown by less
pub near_grown : (a : Rect) (n m : ℕ) (x y : ℤ) → n ≤ m → Has (grow_of a (pos n)) x y → HasNear a (pos m) x y
near_grown a n m x y few h =
    let near = (Has-grow_of a (pos n) x y (omega (arith, ints))).0 h in
    (near.0, near.1, near.2, (omega (arith, ints, few, near.3.0), omega (arith, ints, few, near.3.1)), (omega (arith, ints, few, near.4.0), omega (arith, ints, few, near.4.1)))

-- the cover of a rectangle and where it is moved to
pub near_moved : (a : Rect) (dx dy : ℤ) (n : ℕ) (x y : ℤ) → neg_ℤ (pos n) ≤ℤ dx → dx ≤ℤ pos n → neg_ℤ (pos n) ≤ℤ dy → dy ≤ℤ pos n
    → Has (cover_of a (shift_of a dx dy)) x y → HasNear a (pos n) x y
near_moved a dx dy n x y left right up down h =
    (Has-grow_of a (pos n) x y (omega (arith, ints))).0 (cover_least a (shift_of a dx dy) (grow_of a (pos n)) itself there x y h)
  where
    itself : IsWithin a (grow_of a (pos n))
    itself u v k = (Has-grow_of a (pos n) u v (omega (arith, ints))).1 (near_itself a n u v k)

    there : IsWithin (shift_of a dx dy) (grow_of a (pos n))
    there u v k = (Has-grow_of a (pos n) u v (omega (arith, ints))).1 (
      u -ℤ dx,
      v -ℤ dy,
      (omega (arith, ints, k.0), omega (arith, ints, k.1), omega (arith, ints, k.2), omega (arith, ints, k.3)),
      (omega (arith, ints, left, right), omega (arith, ints, left, right)),
      (omega (arith, ints, up, down), omega (arith, ints, up, down)),
    )
