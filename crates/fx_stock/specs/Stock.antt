-- The stock set: the kinds of the sets that it is made of, one after another, and what each set says of its own.
use Rattle.std.specs.Prelude.{ℕ, ◌<◌, ◌-◌, nat_lt, ℤ, List, [], ◌++◌, if◌then◌else◌}
use Rattle.geom_rect.specs.declared.rect.Rect.{Rect}
use Rattle.geom_rect.specs.Rect.{meet_of}
use Rattle.argb_pixel.specs.Pixel.{Argb}
use Rattle.comp_stack.specs.Stack.{Plane}
use Rattle.project_model.specs.declared.effect.EffectSchema.{EffectSchema}
use Rattle.project_model.specs.Effects.{Use, schema_of}
use Rattle.effect_api.specs.declared.moment.Moment.{Moment}
use Rattle.effect_api.specs.declared.moment.Want.{Want}
use Rattle.effect_api.specs.declared.moment.Ask.{Ask}
use Rattle.effect_api.specs.Own.{own_wants, own_bounds}
use Rattle.fx_color.specs.Color.{color_schemas, color_draws}
use Rattle.fx_spatial.specs.Spatial.{spatial_schema, spatial_schemas, kind_of, spatial_wants, spatial_bounds, spatial_need, spatial_result, spatial_draws}
use Rattle.fx_time.specs.Time.{time_schema, time_schemas, kind_of as time_kind_of, time_wants, time_bounds, time_need, time_result, time_draws}
use Rattle.fx_analysis.specs.Sums.{analysis_sums}
use Rattle.fx_analysis.specs.Analysis.{analysis_schema, analysis_schemas, analysis_class_names, kind_of as analysis_kind_of, analysis_asks, analysis_draws}
use Rattle.fx_stock.specs.declared.part.Part.{Part}
use Rattle.fx_stock.specs.declared.part.Part.TheVariants.{Color, Spatial, Time, Analysis}

-- by the numbers of their kinds
abbrev pub stock_schemas : List EffectSchema
stock_schemas = color_schemas ++ spatial_schemas ++ time_schemas ++ analysis_schemas

-- class 1 and class 2, those of the analyses
abbrev pub stock_class_names : List (List ℕ)
stock_class_names = analysis_class_names

-- the set that a kind is of, with its number there
abbrev pub part_of : ℕ → Part
part_of kind =
    if nat_lt kind 6 then Color kind
    else (if nat_lt kind 11 then Spatial (kind_of (kind - 6))
    else (if nat_lt kind 15 then Time (time_kind_of (kind - 11))
    else Analysis (analysis_kind_of (kind - 15))))

-- the set has a kind of this number, and its schema
abbrev pub IsPart : Part → Type 0
IsPart (Color kind) = kind < 6
IsPart (Spatial kind) = Unit {0}
IsPart (Time kind) = Unit {0}
IsPart (Analysis kind) = Unit {0}

abbrev pub part_schema : Part → EffectSchema
part_schema (Color kind) = schema_of color_schemas kind
part_schema (Spatial kind) = spatial_schema kind
part_schema (Time kind) = time_schema kind
part_schema (Analysis kind) = analysis_schema kind

-- what each set says of it
abbrev pub part_wants : Part → Use → Moment → List Want
part_wants (Color kind) fx at = own_wants at
part_wants (Spatial kind) fx at = spatial_wants kind at
part_wants (Time kind) fx at = time_wants kind fx at
part_wants (Analysis kind) fx at = own_wants at

abbrev pub part_asks : Part → Use → Moment → List Ask
part_asks (Color kind) fx at = []
part_asks (Spatial kind) fx at = []
part_asks (Time kind) fx at = []
part_asks (Analysis kind) fx at = analysis_asks kind fx at

abbrev pub part_bounds : Part → Use → Moment → List Rect → Rect
part_bounds (Color kind) fx at extents = own_bounds extents
part_bounds (Spatial kind) fx at extents = spatial_bounds kind fx at extents
part_bounds (Time kind) fx at extents = time_bounds kind fx at extents
part_bounds (Analysis kind) fx at extents = own_bounds extents

abbrev pub part_need : Part → Use → Moment → List Rect → ℕ → Rect → Rect
part_need (Color kind) fx at extents i rect = rect
part_need (Spatial kind) fx at extents i rect = spatial_need kind fx at extents i rect
part_need (Time kind) fx at extents i rect = time_need kind fx at extents i rect
part_need (Analysis kind) fx at extents i rect = rect

-- what is drawn for a request
abbrev pub part_result : Part → Use → Moment → List Rect → Rect → Rect
part_result (Color kind) fx at extents request = meet_of request (own_bounds extents)
part_result (Spatial kind) fx at extents request = spatial_result kind fx at extents request
part_result (Time kind) fx at extents request = time_result kind fx at extents request
part_result (Analysis kind) fx at extents request = meet_of request (own_bounds extents)

-- the pixel at a point, where channels are at most this
abbrev pub part_draws : ℕ → Part → Use → Moment → List Plane → List (List ℕ) → ℤ → ℤ → Argb
part_draws most (Color kind) fx at planes sums = color_draws kind fx at planes
part_draws most (Spatial kind) fx at planes sums = spatial_draws most kind fx at planes
part_draws most (Time kind) fx at planes sums = time_draws most kind fx at planes
part_draws most (Analysis kind) fx at planes sums = analysis_draws most kind fx at planes sums

-- the sums of a class of the stock
abbrev pub stock_sums : ℕ → ℕ → Plane → List ℕ
stock_sums class ask plane = analysis_sums class ask plane
