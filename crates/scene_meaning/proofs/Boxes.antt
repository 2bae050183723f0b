-- Planes stay within their boxes.
use Rattle.std.proofs.Common.{◌≡◌, ℕ, ◌+◌, ◌≤◌, pos, Bool, true, false, List, [], ◌∷◌, refl, arith}
use Rattle.std.specs.Prelude.{if◌then◌else◌}
use Rattle.std.specs.List.{All}
use Rattle.std.proofs.lemmas.Int.{ints}
use Rattle.std.proofs.Math.Nat.{le_trans}
use Rattle.std.proofs.lemmas.List.Elements.{All-head, All-tail}
use Rattle.geom_rect.specs.declared.rect.Rect.{Rect}
use Rattle.geom_rect.specs.Rect.{IsWithin, is_empty, frame_rect, origin, cover_of, hull_of, area_of}
use Rattle.geom_rect.proofs.Points.{room_from_false, no_point_from_true, hull-within, outside_from_within, Has-grow_of}
use Rattle.argb_world.specs.Picture.{greatest_part}
use Rattle.argb_world.proofs.Places.{area_within}
use Rattle.effect_api.specs.Planes.{HasSides, cover_all}
use Rattle.effect_api.specs.Wants.{IsBounds}
use Rattle.scene_meaning.specs.Boxes.{box_of, IsBoxed}

-- pictures of this size
pub frame_boxed : (w h : ℕ) → w ≤ 4096 → h ≤ 4096 → IsBoxed 0 (frame_rect w h)
frame_boxed w h wide high = record {
  within = λ x y has. (omega (arith, ints, has.0), omega (arith, ints, has.1, wide), omega (arith, ints, has.2), omega (arith, ints, has.3, high));
  near = record {
    left_near = (omega (arith, ints), omega (arith, ints));
    top_near = (omega (arith, ints), omega (arith, ints));
    right_near = (omega (arith, ints), omega (arith, ints, wide));
    bottom_near = (omega (arith, ints), omega (arith, ints, high));
  };
}

-- more effects leave more room
pub boxed_more : (few more : ℕ) (rect : Rect) → few ≤ more → IsBoxed few rect → IsBoxed more rect
boxed_more few more rect le is = record {
  within = λ x y has.
      let h = is.within x y has in
      (omega (arith, ints, h.0, le), omega (arith, ints, h.1, le), omega (arith, ints, h.2, le), omega (arith, ints, h.3, le));
  near = is.near;
}

cover_in : (a b r : Rect) → IsWithin a r → IsWithin b r → IsWithin (cover_of a b) r
cover_in a b r in_a in_b = by (is_empty a) refl (is_empty b) refl
  where
    by : (s : Bool) → is_empty a ≡ s → (t : Bool) → is_empty b ≡ t → IsWithin (if s then (if t then origin else b) else (if t then a else hull_of a b)) r
    by true e true f = λ x y h. absurd (no_point_from_true origin refl x y h)
    by true e false f = in_b
    by false e true f = in_a
    by false e false f = hull-within a b r (room_from_false a e) (room_from_false b f) in_a in_b

all_within : (count : ℕ) (rects : List Rect) → All (IsBoxed count) rects → IsWithin (cover_all rects) (box_of count)
all_within count [] all = λ x y h. absurd (no_point_from_true origin refl x y h)
all_within count (rect ∷ rects) all =
    cover_in rect (cover_all rects) (box_of count) (All-head (IsBoxed count) rect rects all).within (all_within count rects (All-tail (IsBoxed count) rect rects all))

-- no side of a rectangle in one of these boxes is far away
sides_boxed : (count : ℕ) (rect : Rect) → count ≤ 9 → is_empty rect ≡ false → IsWithin rect (box_of count) → HasSides rect
sides_boxed count rect few e within =
    let room = room_from_false rect e in
    let out = outside_from_within rect (box_of count) room within in
    record {
      left_near = (omega (arith, ints, out.left, few), omega (arith, ints, out.right, room.across, few));
      top_near = (omega (arith, ints, out.top, few), omega (arith, ints, out.bottom, room.down, few));
      right_near = (omega (arith, ints, out.left, room.across, few), omega (arith, ints, out.right, few));
      bottom_near = (omega (arith, ints, out.top, room.down, few), omega (arith, ints, out.bottom, few));
    }

-- what an effect may draw from such planes
pub bounds_boxed : (count : ℕ) (extents : List Rect) (bounds : Rect) → count ≤ 8 → All (IsBoxed count) extents → IsBounds extents bounds → IsBoxed (count + 1) bounds
bounds_boxed count extents bounds few all is = record { within = within; near = by (is_empty bounds) refl }
  where
    within : IsWithin bounds (box_of (count + 1))
    within = λ x y has.
        let near = (Has-grow_of (cover_all extents) (pos 1024) x y (omega (arith, ints))).0 (is.near x y has) in
        let h = all_within count extents all near.0 near.1 near.2 in (
          omega (arith, ints, h.0, near.3.1),
          omega (arith, ints, h.1, near.3.0),
          omega (arith, ints, h.2, near.4.1),
          omega (arith, ints, h.3, near.4.0),
        )

    by : (b : Bool) → is_empty bounds ≡ b → HasSides bounds
    by true e = is.empty (λ i r within. (all i r within).near) e
    by false e = sides_boxed (count + 1) bounds (omega (arith, few)) e within

-- a picture may have as many points as the box behind eight effects
pub boxed_area : (count : ℕ) (rect : Rect) → count ≤ 8 → IsBoxed count rect → area_of rect ≤ greatest_part
boxed_area count rect few is = le_trans (area_within rect (box_of 8) (boxed_more count 8 rect few is).within) (omega arith)
