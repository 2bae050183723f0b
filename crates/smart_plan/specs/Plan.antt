-- What is drawn of an effect for a request, and which planes are drawn whole.
use Rattle.std.specs.Prelude.{◌≢◌, ◌↔◌, ℤ, Bool, List, IsTrue, if◌then◌else◌}
use Rattle.std.specs.List.{AllZip}
use Rattle.geom_rect.specs.declared.rect.Rect.{Rect}
use Rattle.geom_rect.specs.Rect.{Has, IsWithin, is_empty, origin}
use Rattle.effect_api.specs.declared.moment.Moment.{Moment}
use Rattle.effect_api.specs.declared.moment.Want.{Want}
use Rattle.effect_api.specs.declared.pre_render.PreRender.{PreRender}
use Rattle.effect_api.specs.Planes.{HasSides}

-- the rectangle, and the empty one at the origin where it has no point
abbrev pub trimmed : Rect → Rect
trimmed rect = if is_empty rect then origin else rect

-- the rectangle to draw
abbrev pub part_of : PreRender → Rect
part_of pre = trimmed pre.result_rect

-- it lies in the bounds, is no further away than they are, and has all of them that is requested
pub record IsPart (bounds request part : Rect) : Type 0 where
  pub inside : IsWithin part bounds
  pub near : HasSides bounds → HasSides part
  pub whole : (x y : ℤ) → Has request x y → Has bounds x y → Has part x y

-- one mark for each want, set exactly where the want is at another tick than the moment's
abbrev pub AreMarked : List Want → Moment → List Bool → Type 0
AreMarked wants at marks = AllZip (λ want mark. IsTrue mark ↔ (want.tick ≢ at.tick)) wants marks
