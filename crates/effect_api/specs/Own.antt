-- What most effects share: each point is drawn from the input's own point, at the moment's tick.
use Rattle.std.specs.Prelude.{ℕ, ℤ, List, [], ◌∷◌, if◌then◌else◌}
use Rattle.geom_rect.specs.declared.rect.Rect.{Rect}
use Rattle.geom_rect.specs.Rect.{has}
use Rattle.argb_pixel.specs.Pixel.{Argb, clear}
use Rattle.comp_stack.specs.Stack.{Plane}
use Rattle.effect_api.specs.declared.moment.Moment.{Moment}
use Rattle.effect_api.specs.declared.moment.Want.{Want}
use Rattle.effect_api.specs.Planes.{extent_at, plane_at}

-- one want: the input at the moment's tick
abbrev pub own_wants : Moment → List Want
own_wants at = record { input = 0; tick = at.tick } ∷ []

-- as large as the input
abbrev pub own_bounds : List Rect → Rect
own_bounds extents = extent_at extents 0

-- no class of analyses
abbrev pub no_classes : List (List ℕ)
no_classes = []

abbrev pub no_sums : ℕ → ℕ → Plane → List ℕ
no_sums class ask plane = []

-- the input's pixel changed, and nothing outside the input
abbrev pub each_point : (Argb → Argb) → List Plane → ℤ → ℤ → Argb
each_point change planes x y =
    if has (plane_at planes 0).extent x y then change ((plane_at planes 0).at x y) else clear
