-- What pre-render answers: whether there is more than was asked for, and what is checked out.
use Rattle.std.specs.Prelude.{ℕ, Bool, not, ◌&&◌, ◌||◌, int_lt, List, [], ◌∷◌}
use Rattle.geom_rect.specs.declared.rect.Rect.{Rect}
use Rattle.geom_rect.specs.Rect.{is_empty, meet_of}
use Rattle.effect_api.specs.declared.moment.Moment.{Moment}
use Rattle.effect_api.specs.declared.moment.Want.{Want}
use Rattle.effect_api.specs.declared.pre_render.Checkout.{Checkout}
use Rattle.effect_api.specs.Planes.{extent_at}
use Rattle.fx_spatial.specs.declared.kind.SpatialKind.{SpatialKind}
use Rattle.fx_spatial.specs.declared.kind.SpatialKind.TheVariants.{Offset, BoxBlur, Mosaic, DropShadow, Displace}
use Rattle.fx_spatial.specs.Spatial.{want_now}

-- whether a rectangle has points outside of another
abbrev pub leaves : Rect → Rect → Bool
leaves rect other =
    not (is_empty rect)
    && (int_lt rect.left other.left || (int_lt rect.top other.top || (int_lt other.right rect.right || int_lt other.bottom rect.bottom)))

-- what is needed of a want, within its extent
abbrev pub asked : Want → ℕ → Rect → Rect → Checkout
asked want number need extent = record { id = number; want = want; request = meet_of need extent }

-- the input, and for Displace the map, of which the rectangle that is drawn is needed
abbrev pub input_asked : Moment → List Rect → Rect → List Checkout
input_asked at extents need = asked (want_now 0 at) 0 need (extent_at extents 0) ∷ []

abbrev pub checkouts_of : SpatialKind → Moment → List Rect → Rect → Rect → List Checkout
checkouts_of Offset at extents need rect = input_asked at extents need
checkouts_of BoxBlur at extents need rect = input_asked at extents need
checkouts_of Mosaic at extents need rect = input_asked at extents need
checkouts_of DropShadow at extents need rect = input_asked at extents need
checkouts_of Displace at extents need rect =
    asked (want_now 0 at) 0 need (extent_at extents 0) ∷ asked (want_now 1 at) 1 rect (extent_at extents 1) ∷ []
