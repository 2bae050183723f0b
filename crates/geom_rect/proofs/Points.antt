-- What the points of a rectangle are after each change of its sides.
use Rattle.std.proofs.Common.{◌≡◌, ◌↔◌, ℤ, pos, ◌≤ℤ◌, ◌<ℤ◌, ◌+ℤ◌, ◌-ℤ◌, Bool, true, false, refl, arith}
use Rattle.std.specs.Prelude.{int_le, int_lt, ◌||◌, ◌&&◌, if◌then◌else◌}
use Rattle.std.specs.Int.{int_min, int_max}
use Rattle.std.proofs.lemmas.Int.{ints, clamps, by_lt_z}
use Rattle.geom_rect.specs.declared.rect.Rect.{Rect}
use Rattle.geom_rect.specs.Rect.{Has, has, HasNear, IsNear, IsWithin, is_empty, meet_of, hull_of, shift_of, grow_of}

-- the rectangle with these sides
abbrev sides_of : ℤ → ℤ → ℤ → ℤ → Rect
sides_of l t r b = record { left = l; top = t; right = r; bottom = b }

-- a rectangle is its four sides
pub same_rect : (a b : Rect) → a.left ≡ b.left → a.top ≡ b.top → a.right ≡ b.right → a.bottom ≡ b.bottom → a ≡ b
same_rect a b left top right bottom = same_sides
  where
    same_sides : sides_of a.left a.top a.right a.bottom ≡ sides_of b.left b.top b.right b.bottom
    same_sides = cc

-- the sides of one with room for a point
pub record HasRoom (rect : Rect) : Type 0 where
  pub across : rect.left <ℤ rect.right
  pub down : rect.top <ℤ rect.bottom

pub room_from_false : (rect : Rect) → is_empty rect ≡ false → HasRoom rect
room_from_false rect = by (int_le rect.right rect.left) refl (int_le rect.bottom rect.top) refl
  where
    by : (s : Bool) → int_le rect.right rect.left ≡ s → (t : Bool) → int_le rect.bottom rect.top ≡ t → (s || t) ≡ false → HasRoom rect
    by true p t q e = cc
    by false p true q e = cc
    by false p false q e = record { across = omega (arith, ints); down = omega (arith, ints) }

pub no_point_from_true : (rect : Rect) → is_empty rect ≡ true → (x y : ℤ) → ¬ Has rect x y
no_point_from_true rect = by (int_le rect.right rect.left) refl (int_le rect.bottom rect.top) refl
  where
    by : (s : Bool) → int_le rect.right rect.left ≡ s → (t : Bool) → int_le rect.bottom rect.top ≡ t → (s || t) ≡ true → (x y : ℤ) → ¬ Has rect x y
    by true p t q e x y h = absurd (omega (arith, ints))
    by false p true q e x y h = absurd (omega (arith, ints))
    by false p false q e x y h = cc

-- the test of a point
pub has-true : (r : Rect) (x y : ℤ) → Has r x y → has r x y ≡ true
has-true r x y h = by (int_le r.left x) refl (int_lt x r.right) refl (int_le r.top y) refl (int_lt y r.bottom) refl
  where
    by : (a : Bool) → int_le r.left x ≡ a → (b : Bool) → int_lt x r.right ≡ b → (c : Bool) → int_le r.top y ≡ c → (d : Bool) → int_lt y r.bottom ≡ d → (a && b && c && d) ≡ true
    by true p true q true s true t = refl
    by false p b q c s d t = absurd (omega (arith, ints, h.0))
    by true p false q c s d t = absurd (omega (arith, ints, h.1))
    by true p true q false s d t = absurd (omega (arith, ints, h.2))
    by true p true q true s false t = absurd (omega (arith, ints, h.3))

pub Has-from_true : (r : Rect) (x y : ℤ) → has r x y ≡ true → Has r x y
Has-from_true r x y = by (int_le r.left x) refl (int_lt x r.right) refl (int_le r.top y) refl (int_lt y r.bottom) refl
  where
    by : (a : Bool) → int_le r.left x ≡ a → (b : Bool) → int_lt x r.right ≡ b → (c : Bool) → int_le r.top y ≡ c → (d : Bool) → int_lt y r.bottom ≡ d → (a && b && c && d) ≡ true → Has r x y
    by true p true q true s true t e = (omega (arith, ints, p), omega (arith, ints, q), omega (arith, ints, s), omega (arith, ints, t))
    by false p b q c s d t e = absurd cc
    by true p false q c s d t e = absurd cc
    by true p true q false s d t e = absurd cc
    by true p true q true s false t e = absurd cc

-- its near corner is in it
pub near_corner : (rect : Rect) → HasRoom rect → Has rect rect.left rect.top
near_corner rect room = (omega (arith, ints), omega (arith, ints), omega (arith, ints), omega (arith, ints))

far_corner : (rect : Rect) → HasRoom rect → Has rect (rect.right -ℤ pos 1) (rect.bottom -ℤ pos 1)
far_corner rect room = (omega (arith, ints), omega (arith, ints), omega (arith, ints), omega (arith, ints))

pub Has-meet_of : (a b : Rect) (x y : ℤ) → Has (meet_of a b) x y ↔ (Has a x y × Has b x y)
Has-meet_of a b x y = (
  λ h. ((omega (arith, ints, clamps, h.0), omega (arith, ints, clamps, h.1), omega (arith, ints, clamps, h.2), omega (arith, ints, clamps, h.3)), (omega (arith, ints, clamps, h.0), omega (arith, ints, clamps, h.1), omega (arith, ints, clamps, h.2), omega (arith, ints, clamps, h.3))),
  λ h. (omega (arith, ints, clamps), omega (arith, ints, clamps), omega (arith, ints, clamps), omega (arith, ints, clamps)),
)

pub Has-shift_of : (rect : Rect) (dx dy x y : ℤ) → Has (shift_of rect dx dy) (x +ℤ dx) (y +ℤ dy) ↔ Has rect x y
Has-shift_of rect dx dy x y = (
  λ h. (omega (arith, ints, h.0), omega (arith, ints, h.1), omega (arith, ints, h.2), omega (arith, ints, h.3)),
  λ h. (omega (arith, ints), omega (arith, ints), omega (arith, ints), omega (arith, ints)),
)

pub within_itself : (rect : Rect) → IsWithin rect rect
within_itself rect x y h = h

pub empty_within : (a b : Rect) → is_empty a ≡ true → IsWithin a b
empty_within a b e x y h = absurd (no_point_from_true a e x y h)

pub within-hull_left : (a b : Rect) → IsWithin a (hull_of a b)
within-hull_left a b x y h =
    (omega (arith, ints, clamps, h.0), omega (arith, ints, clamps, h.1), omega (arith, ints, clamps, h.2), omega (arith, ints, clamps, h.3))

pub within-hull_right : (a b : Rect) → IsWithin b (hull_of a b)
within-hull_right a b x y h =
    (omega (arith, ints, clamps, h.0), omega (arith, ints, clamps, h.1), omega (arith, ints, clamps, h.2), omega (arith, ints, clamps, h.3))

-- one that holds each point of a rectangle with room has its sides outside of that one's
pub record IsOutside (inner outer : Rect) : Type 0 where
  pub left : outer.left ≤ℤ inner.left
  pub top : outer.top ≤ℤ inner.top
  pub right : inner.right ≤ℤ outer.right
  pub bottom : inner.bottom ≤ℤ outer.bottom

pub outside_from_within : (inner outer : Rect) → HasRoom inner → IsWithin inner outer → IsOutside inner outer
outside_from_within inner outer room within =
    let near = within _ _ (near_corner inner room) in
    let far = within _ _ (far_corner inner room) in
    record {
      left = near.0;
      top = near.2;
      right = omega (arith, ints, far.1);
      bottom = omega (arith, ints, far.3);
    }

pub hull-within : (a b r : Rect) → HasRoom a → HasRoom b → IsWithin a r → IsWithin b r → IsWithin (hull_of a b) r
hull-within a b r room_a room_b in_a in_b x y h =
    let out_a = outside_from_within a r room_a in_a in
    let out_b = outside_from_within b r room_b in_b in (
      omega (arith, ints, clamps, h.0, out_a.left, out_b.left),
      omega (arith, ints, clamps, h.1, out_a.right, out_b.right),
      omega (arith, ints, clamps, h.2, out_a.top, out_b.top),
      omega (arith, ints, clamps, h.3, out_a.bottom, out_b.bottom),
    )

-- of the numbers from low to high - 1 one is at most n from x, where x is at most n outside of them
pub nearest_lem : (low high n x : ℤ) → low <ℤ high → pos 0 ≤ℤ n → (low -ℤ n) ≤ℤ x → x <ℤ (high +ℤ n) → (u : ℤ) × (low ≤ℤ u) × (u <ℤ high) × IsNear n x u
nearest_lem low high n x room out from to =
    let u : ℤ = int_max low (int_min x (high -ℤ pos 1)) in
    (u, omega (arith, ints, clamps), omega (arith, ints, clamps), (omega (arith, ints, clamps), omega (arith, ints, clamps)))

pub Has-grow_of : (rect : Rect) (n x y : ℤ) → pos 0 ≤ℤ n → Has (grow_of rect n) x y ↔ HasNear rect n x y
Has-grow_of rect n x y out = by (is_empty rect) refl
  where
    by : (s : Bool) → is_empty rect ≡ s → Has (if s then rect else record { left = rect.left -ℤ n; top = rect.top -ℤ n; right = rect.right +ℤ n; bottom = rect.bottom +ℤ n }) x y ↔ HasNear rect n x y
    by true e = (λ h. absurd (no_point_from_true rect e x y h), λ h. absurd (no_point_from_true rect e h.0 h.1 h.2))
    by false e =
        let room = room_from_false rect e in (
          λ h.
              let across = nearest_lem rect.left rect.right n x room.across out h.0 h.1 in
              let down = nearest_lem rect.top rect.bottom n y room.down out h.2 h.3 in
              (across.0, down.0, (across.1, across.2, down.1, down.2), across.3, down.3),
          λ h. (
            omega (arith, ints, h.2.0, h.3.1),
            omega (arith, ints, h.2.1, h.3.0),
            omega (arith, ints, h.2.2, h.4.1),
            omega (arith, ints, h.2.3, h.4.0),
          ),
        )

-- where there is room across and no point, there is no room down
pub closed_from_no_point : (rect : Rect) → rect.left <ℤ rect.right → ((x y : ℤ) → ¬ Has rect x y) → rect.bottom ≤ℤ rect.top
closed_from_no_point rect across none =
    by_lt_z rect.top rect.bottom
    (λ down. absurd (none _ _ (near_corner rect (record { across = across; down = down }))))
    (λ closed. closed)

-- each side moved out
abbrev pub grown : Rect → ℤ → Rect
grown rect n = sides_of (rect.left -ℤ n) (rect.top -ℤ n) (rect.right +ℤ n) (rect.bottom +ℤ n)

-- where there is room, each side moves out
pub grow_of-room : (rect : Rect) (n : ℤ) → is_empty rect ≡ false → grow_of rect n ≡ grown rect n
grow_of-room rect n e = by (is_empty rect) e
  where
    by : (s : Bool) → s ≡ false → (if s then rect else grown rect n) ≡ grown rect n
    by true f = cc
    by false f = refl
