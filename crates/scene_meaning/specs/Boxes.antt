-- How far the plane of a layer reaches behind its effects.
use Rattle.std.specs.Prelude.{ℕ, ◌*◌, pos}
use Rattle.geom_rect.specs.declared.rect.Rect.{Rect}
use Rattle.geom_rect.specs.Rect.{IsWithin, frame_rect, grow_of}
use Rattle.project_model.specs.Bounds.{greatest_side}
use Rattle.effect_api.specs.Planes.{HasSides}

-- the greatest picture, and 1,024 points further on each side for each of so many effects
abbrev pub box_of : ℕ → Rect
box_of count = grow_of (frame_rect greatest_side greatest_side) (pos (1024 * count))

-- a rectangle that is no larger, and is not far away where it is empty
pub record IsBoxed (count : ℕ) (rect : Rect) : Type 0 where
  pub within : IsWithin rect (box_of count)
  pub near : HasSides rect
