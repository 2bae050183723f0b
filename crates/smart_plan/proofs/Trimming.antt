-- A rectangle without the sides of an empty one.
use Rattle.std.proofs.Common.{◌≡◌, ◌↔◌, ℤ, Bool, true, false, if◌then◌else◌, refl, arith}
use Rattle.std.proofs.lemmas.Int.{ints}
use Rattle.geom_rect.specs.declared.rect.Rect.{Rect}
use Rattle.geom_rect.specs.Rect.{Has, IsWithin, is_empty, origin}
use Rattle.geom_rect.proofs.Points.{HasRoom, room_from_false, no_point_from_true, outside_from_within}
use Rattle.effect_api.specs.Planes.{HasSides}
use Rattle.smart_plan.specs.Plan.{trimmed}

-- the points stay
pub Has-trimmed : (r : Rect) (x y : ℤ) → Has (trimmed r) x y ↔ Has r x y
Has-trimmed r x y = by (is_empty r) refl
  where
    by : (e : Bool) → is_empty r ≡ e → Has (if e then origin else r) x y ↔ Has r x y
    by true e = (λ h. absurd (omega (arith, ints, h.0, h.1)), λ h. absurd (no_point_from_true r e x y h))
    by false e = (λ h. h, λ h. h)

-- what has a point is no further away than what it lies in
pub trimmed_near : (r outer : Rect) → IsWithin r outer → HasSides outer → HasSides (trimmed r)
trimmed_near r outer inside near = by (is_empty r) refl
  where
    none : HasSides origin
    none = record {
      left_near = (omega (arith, ints), omega (arith, ints));
      top_near = (omega (arith, ints), omega (arith, ints));
      right_near = (omega (arith, ints), omega (arith, ints));
      bottom_near = (omega (arith, ints), omega (arith, ints));
    }

    some : HasRoom r → HasSides r
    some room =
        let out = outside_from_within r outer room inside in
        let l = near.left_near in
        let t = near.top_near in
        let b = near.bottom_near in
        let g = near.right_near in
        record {
          left_near = (omega (arith, ints, l.0, out.left), omega (arith, ints, room.across, out.right, g.1));
          top_near = (omega (arith, ints, t.0, out.top), omega (arith, ints, room.down, out.bottom, b.1));
          right_near = (omega (arith, ints, room.across, out.left, l.0), omega (arith, ints, out.right, g.1));
          bottom_near = (omega (arith, ints, room.down, out.top, t.0), omega (arith, ints, out.bottom, b.1));
        }

    by : (e : Bool) → is_empty r ≡ e → HasSides (if e then origin else r)
    by true e = none
    by false e = some (room_from_false r e)
