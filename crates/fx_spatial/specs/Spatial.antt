-- The spatial effects: kinds, schemas, what each draws from, where, and what.
use Rattle.std.specs.Prelude.{ℕ, ◌==◌, ℤ, pos, neg_ℤ, true, List, [], ◌∷◌, codes, if◌then◌else◌}
use Rattle.geom_rect.specs.declared.rect.Rect.{Rect}
use Rattle.geom_rect.specs.Rect.{meet_of, grow_of}
use Rattle.argb_pixel.specs.Pixel.{Argb}
use Rattle.comp_stack.specs.Stack.{Plane}
use Rattle.project_model.specs.declared.effect.EffectSchema.{EffectSchema}
use Rattle.project_model.specs.declared.effect.ParamSchema.{ParamSchema}
use Rattle.project_model.specs.Effects.{Use}
use Rattle.effect_api.specs.declared.moment.Moment.{Moment}
use Rattle.effect_api.specs.declared.moment.Want.{Want}
use Rattle.effect_api.specs.Schemas.{param, no_sequence, plain_effect}
use Rattle.effect_api.specs.Planes.{extent_at, plane_at}
use Rattle.effect_api.specs.Own.{own_wants}
use Rattle.fx_blur.specs.Blur.{blur_at, blur_extent}
use Rattle.fx_blur.specs.Mosaic.{mosaic_at, blocks_of}
use Rattle.fx_color.specs.Color.{share, amount_of, number_of}
use Rattle.fx_spatial.specs.declared.kind.SpatialKind.{SpatialKind}
use Rattle.fx_spatial.specs.declared.kind.SpatialKind.TheVariants.{Offset, BoxBlur, Mosaic, DropShadow, Displace}
use Rattle.fx_spatial.specs.Offset.{offset_at}
use Rattle.fx_spatial.specs.Shadow.{shadow_of, shadowed_at, shadow_bounds, shadow_need}
use Rattle.fx_spatial.specs.Displace.{displaced_at, displace_need}

-- as far to either side
abbrev pub both_ways : List ℕ → ℕ → ParamSchema
both_ways name furthest = param name (neg_ℤ (pos furthest)) (pos furthest)

abbrev pub offset_schema : EffectSchema
offset_schema = plain_effect (codes "Offset")
    (param (codes "dx") (neg_ℤ (pos 32768)) (pos 32767) ∷ param (codes "dy") (neg_ℤ (pos 32768)) (pos 32767) ∷ [])

abbrev pub blur_schema : EffectSchema
blur_schema = plain_effect (codes "BoxBlur") (param (codes "radius") (pos 0) (pos 128) ∷ [])

abbrev pub mosaic_schema : EffectSchema
mosaic_schema = plain_effect (codes "Mosaic") (param (codes "size") (pos 1) (pos 1024) ∷ [])

abbrev pub shadow_schema : EffectSchema
shadow_schema = plain_effect (codes "DropShadow")
    (both_ways (codes "dx") 1024 ∷ both_ways (codes "dy") 1024 ∷ share (codes "opacity") ∷ share (codes "red") ∷ share (codes "green")
    ∷ share (codes "blue") ∷ [])

-- its layer parameter is the map
abbrev pub displace_schema : EffectSchema
displace_schema = record {
  name = codes "Displace";
  threaded = true;
  params = both_ways (codes "max x") 1024 ∷ both_ways (codes "max y") 1024 ∷ [];
  layers = 1;
  sequence = no_sequence;
}

abbrev pub spatial_schema : SpatialKind → EffectSchema
spatial_schema Offset = offset_schema
spatial_schema BoxBlur = blur_schema
spatial_schema Mosaic = mosaic_schema
spatial_schema DropShadow = shadow_schema
spatial_schema Displace = displace_schema

-- by the numbers of their kinds
abbrev pub spatial_schemas : List EffectSchema
spatial_schemas = offset_schema ∷ blur_schema ∷ mosaic_schema ∷ shadow_schema ∷ displace_schema ∷ []

abbrev pub kind_of : ℕ → SpatialKind
kind_of number =
    if number == 0 then Offset
    else (if number == 1 then BoxBlur
    else (if number == 2 then Mosaic
    else (if number == 3 then DropShadow
    else Displace)))

-- an input at the moment's tick
abbrev pub want_now : ℕ → Moment → Want
want_now input at = record { input = input; tick = at.tick }

-- the input, and for Displace the map
abbrev pub spatial_wants : SpatialKind → Moment → List Want
spatial_wants Offset at = own_wants at
spatial_wants BoxBlur at = own_wants at
spatial_wants Mosaic at = own_wants at
spatial_wants DropShadow at = own_wants at
spatial_wants Displace at = want_now 0 at ∷ want_now 1 at ∷ []

-- where it may draw, over an input of this extent
abbrev pub bounds_over : SpatialKind → Use → Moment → Rect → Rect
bounds_over Offset fx at extent = extent
bounds_over BoxBlur fx at extent = blur_extent (amount_of fx 0 at) extent
bounds_over Mosaic fx at extent = extent
bounds_over DropShadow fx at extent = shadow_bounds (number_of fx 0 at) (number_of fx 1 at) extent
bounds_over Displace fx at extent = extent

abbrev pub spatial_bounds : SpatialKind → Use → Moment → List Rect → Rect
spatial_bounds kind fx at extents = bounds_over kind fx at (extent_at extents 0)

-- which rectangle of the input, of this extent, drawing a rectangle looks at
abbrev pub need_over : SpatialKind → Use → Moment → Rect → Rect → Rect
need_over Offset fx at extent rect = extent
need_over BoxBlur fx at extent rect = grow_of rect (pos (amount_of fx 0 at))
need_over Mosaic fx at extent rect = blocks_of (amount_of fx 0 at) extent rect
need_over DropShadow fx at extent rect = shadow_need (number_of fx 0 at) (number_of fx 1 at) rect
need_over Displace fx at extent rect = displace_need (number_of fx 0 at) (number_of fx 1 at) rect

-- and of the map the rectangle itself
abbrev pub spatial_need : SpatialKind → Use → Moment → List Rect → ℕ → Rect → Rect
spatial_need kind fx at extents i rect = if i == 0 then need_over kind fx at (extent_at extents 0) rect else rect

-- what is drawn for a request: what it asks for within the bounds, and of Mosaic whole blocks
abbrev pub result_over : SpatialKind → Use → Moment → Rect → Rect → Rect
result_over Offset fx at extent request = meet_of request (bounds_over Offset fx at extent)
result_over BoxBlur fx at extent request = meet_of request (bounds_over BoxBlur fx at extent)
result_over Mosaic fx at extent request = blocks_of (amount_of fx 0 at) extent request
result_over DropShadow fx at extent request = meet_of request (bounds_over DropShadow fx at extent)
result_over Displace fx at extent request = meet_of request (bounds_over Displace fx at extent)

abbrev pub spatial_result : SpatialKind → Use → Moment → List Rect → Rect → Rect
spatial_result kind fx at extents request = result_over kind fx at (extent_at extents 0) request

-- what a use of DropShadow casts
abbrev pub cast_by : Use → Moment → Argb → Argb
cast_by fx at = shadow_of (amount_of fx 2 at) (amount_of fx 3 at) (amount_of fx 4 at) (amount_of fx 5 at)

-- the pixel at a point
abbrev pub spatial_draws : ℕ → SpatialKind → Use → Moment → List Plane → ℤ → ℤ → Argb
spatial_draws most Offset fx at planes = offset_at (number_of fx 0 at) (number_of fx 1 at) (plane_at planes 0)
spatial_draws most BoxBlur fx at planes = blur_at (amount_of fx 0 at) (plane_at planes 0)
spatial_draws most Mosaic fx at planes = mosaic_at (amount_of fx 0 at) (plane_at planes 0)
spatial_draws most DropShadow fx at planes = shadowed_at most (number_of fx 0 at) (number_of fx 1 at) (cast_by fx at) (plane_at planes 0)
spatial_draws most Displace fx at planes =
    displaced_at most (number_of fx 0 at) (number_of fx 1 at) (plane_at planes 0) (plane_at planes 1)
