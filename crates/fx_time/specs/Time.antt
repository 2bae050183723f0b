-- The effects of time: kinds, schemas, what each draws from, where, and what.
use Rattle.std.specs.Prelude.{ℕ, ◌+◌, ◌*◌, ◌==◌, ℤ, pos, ◌-ℤ◌, List, [], ◌∷◌, map, codes, if◌then◌else◌}
use Rattle.std.specs.List.{range_with_len}
use Rattle.geom_rect.specs.declared.rect.Rect.{Rect}
use Rattle.geom_rect.specs.Rect.{meet_of, positive_part}
use Rattle.argb_pixel.specs.Pixel.{Argb}
use Rattle.comp_stack.specs.Stack.{Plane}
use Rattle.project_model.specs.declared.effect.EffectSchema.{EffectSchema}
use Rattle.project_model.specs.Effects.{Use}
use Rattle.effect_api.specs.declared.moment.Moment.{Moment}
use Rattle.effect_api.specs.declared.moment.Want.{Want}
use Rattle.effect_api.specs.Fits.{value_of}
use Rattle.effect_api.specs.Schemas.{param, plain_effect}
use Rattle.effect_api.specs.Planes.{cover_all, extent_at, plane_at}
use Rattle.fx_color.specs.Color.{share, amount_of}
use Rattle.fx_time.specs.declared.kind.TimeKind.{TimeKind}
use Rattle.fx_time.specs.declared.kind.TimeKind.TheVariants.{Echo, PosterizeTime, FrameDifference, TimeMean}
use Rattle.fx_time.specs.Ticks.{frames_after, frames_before, span_start, want_at}
use Rattle.fx_time.specs.Formulas.{echoed_at, difference_at, time_mean_at}

-- how many echoes, how many frames they are apart, and how strong they are
abbrev pub echo_schema : EffectSchema
echo_schema = plain_effect (codes "Echo")
    (param (codes "count") (pos 1) (pos 8) ∷ param (codes "delay") (pos 1) (pos 100) ∷ share (codes "strength") ∷ [])

-- in frames
abbrev pub posterize_schema : EffectSchema
posterize_schema = plain_effect (codes "PosterizeTime") (param (codes "step") (pos 1) (pos 1000) ∷ [])

abbrev pub difference_schema : EffectSchema
difference_schema = plain_effect (codes "FrameDifference") (param (codes "gap") (pos 1) (pos 100) ∷ [])

abbrev pub mean_schema : EffectSchema
mean_schema = plain_effect (codes "TimeMean") (param (codes "radius") (pos 0) (pos 4) ∷ [])

abbrev pub time_schema : TimeKind → EffectSchema
time_schema Echo = echo_schema
time_schema PosterizeTime = posterize_schema
time_schema FrameDifference = difference_schema
time_schema TimeMean = mean_schema

-- by the numbers of their kinds
abbrev pub time_schemas : List EffectSchema
time_schemas = echo_schema ∷ posterize_schema ∷ difference_schema ∷ mean_schema ∷ []

abbrev pub kind_of : ℕ → TimeKind
kind_of number =
    if number == 0 then Echo
    else (if number == 1 then PosterizeTime
    else (if number == 2 then FrameDifference
    else TimeMean))

-- how many wants there are
abbrev pub want_count : TimeKind → Use → Moment → ℕ
want_count Echo fx at = amount_of fx 0 at + 1
want_count PosterizeTime fx at = 1
want_count FrameDifference fx at = 2
want_count TimeMean fx at = 2 * amount_of fx 0 at + 1

-- the tick of the want with a number, before it is held
abbrev pub seen_tick : TimeKind → Use → Moment → ℕ → ℤ
seen_tick Echo fx at k = frames_before at (k * amount_of fx 1 at)
seen_tick PosterizeTime fx at k = span_start at (amount_of fx 0 at)
seen_tick FrameDifference fx at k = frames_before at (k * amount_of fx 0 at)
seen_tick TimeMean fx at k = frames_after at (pos k -ℤ pos (amount_of fx 0 at))

abbrev pub want_of : TimeKind → Use → Moment → ℕ → Want
want_of kind fx at k = want_at at (seen_tick kind fx at k)

abbrev pub time_wants : TimeKind → Use → Moment → List Want
time_wants kind fx at = map (want_of kind fx at) (range_with_len 0 (want_count kind fx at))

-- where it may draw, over inputs of these extents: all that was seen
abbrev pub time_bounds : TimeKind → Use → Moment → List Rect → Rect
time_bounds Echo fx at extents = cover_all extents
time_bounds PosterizeTime fx at extents = extent_at extents 0
time_bounds FrameDifference fx at extents = cover_all extents
time_bounds TimeMean fx at extents = cover_all extents

-- of each want the rectangle itself
abbrev pub time_need : TimeKind → Use → Moment → List Rect → ℕ → Rect → Rect
time_need kind fx at extents i rect = rect

-- what is drawn for a request
abbrev pub time_result : TimeKind → Use → Moment → List Rect → Rect → Rect
time_result kind fx at extents request = meet_of request (time_bounds kind fx at extents)

-- how strong an echo is: the strength at its own tick, in 1/10000
abbrev pub strength_of : Use → Moment → ℕ → ℕ
strength_of fx at k = positive_part (value_of at.base.ticks fx 2 (want_of Echo fx at k).tick.0)

-- the pixel at a point
abbrev pub time_draws : ℕ → TimeKind → Use → Moment → List Plane → ℤ → ℤ → Argb
time_draws most Echo fx at planes = echoed_at most (amount_of fx 0 at) (strength_of fx at) planes
time_draws most PosterizeTime fx at planes = (plane_at planes 0).at
time_draws most FrameDifference fx at planes = difference_at (plane_at planes 0) (plane_at planes 1)
time_draws most TimeMean fx at planes = time_mean_at (want_count TimeMean fx at) planes
