-- The effects that draw from an analysis: kinds, schemas, classes, what each asks for, and what it draws.
use Rattle.std.specs.Prelude.{ℕ, ◌+◌, ◌*◌, ◌==◌, ℤ, pos, ◌+ℤ◌, ◌-ℤ◌, ◌*ℤ◌, List, [], ◌∷◌, map, codes, if◌then◌else◌}
use Rattle.std.specs.List.{range_with_len}
use Rattle.argb_pixel.specs.Pixel.{Argb}
use Rattle.comp_stack.specs.Stack.{Plane}
use Rattle.rational_time.specs.declared.time.Tick.{Tick}
use Rattle.rational_time.specs.Times.{held_of}
use Rattle.project_model.specs.declared.effect.EffectSchema.{EffectSchema}
use Rattle.project_model.specs.Effects.{Use}
use Rattle.effect_api.specs.declared.moment.Moment.{Moment}
use Rattle.effect_api.specs.declared.moment.Ask.{Ask}
use Rattle.effect_api.specs.Schemas.{param, plain_effect}
use Rattle.effect_api.specs.Own.{each_point}
use Rattle.fx_color.specs.Color.{amount_of}
use Rattle.fx_analysis.specs.declared.kind.AnalysisKind.{AnalysisKind}
use Rattle.fx_analysis.specs.declared.kind.AnalysisKind.TheVariants.{AutoLevels, Equalize, Deflicker}
use Rattle.fx_analysis.specs.Formulas.{sums_at, auto_levelled, equalized, deflickered}

abbrev pub levels_schema : EffectSchema
levels_schema = plain_effect (codes "AutoLevels") (param (codes "clip") (pos 0) (pos 4999) ∷ [])

abbrev pub equalize_schema : EffectSchema
equalize_schema = plain_effect (codes "Equalize") []

abbrev pub deflicker_schema : EffectSchema
deflicker_schema = plain_effect (codes "Deflicker") (param (codes "radius") (pos 0) (pos 4) ∷ [])

abbrev pub analysis_schema : AnalysisKind → EffectSchema
analysis_schema AutoLevels = levels_schema
analysis_schema Equalize = equalize_schema
analysis_schema Deflicker = deflicker_schema

-- by the numbers of their kinds
abbrev pub analysis_schemas : List EffectSchema
analysis_schemas = levels_schema ∷ equalize_schema ∷ deflicker_schema ∷ []

abbrev pub kind_of : ℕ → AnalysisKind
kind_of number = if number == 0 then AutoLevels else (if number == 1 then Equalize else Deflicker)

-- class 1 and class 2
abbrev pub analysis_class_names : List (List ℕ)
analysis_class_names = codes "histogram" ∷ codes "light" ∷ []

-- a class's only question, of the input at a tick
abbrev pub asked : ℕ → Tick → Ask
asked class tick = record { class = class; ask = 0; want = record { input = 0; tick = tick } }

-- the histogram of the input
abbrev pub histogram_asks : Moment → List Ask
histogram_asks at = asked 1 at.tick ∷ []

-- so many frames later, held
abbrev pub tick_after : Moment → ℤ → Tick
tick_after at frames = record { 0 = held_of at.base.ticks (at.tick.0 +ℤ (frames *ℤ at.frame)) }

-- the light of the input, from so many frames earlier to as many later
abbrev pub light_asks : ℕ → Moment → List Ask
light_asks radius at = map (λ i. asked 2 (tick_after at (pos i -ℤ pos radius))) (range_with_len 0 (2 * radius + 1))

abbrev pub analysis_asks : AnalysisKind → Use → Moment → List Ask
analysis_asks AutoLevels fx at = histogram_asks at
analysis_asks Equalize fx at = histogram_asks at
analysis_asks Deflicker fx at = light_asks (amount_of fx 0 at) at

-- what becomes of a pixel, by the sums that were asked for
abbrev pub adjusted : AnalysisKind → Use → Moment → List (List ℕ) → Argb → Argb
adjusted AutoLevels fx at sums = auto_levelled (amount_of fx 0 at) (sums_at sums 0)
adjusted Equalize fx at sums = equalized (sums_at sums 0)
adjusted Deflicker fx at sums = deflickered (amount_of fx 0 at) sums

-- the input's pixel adjusted, and nothing outside the input; at each depth alike
abbrev pub analysis_draws : ℕ → AnalysisKind → Use → Moment → List Plane → List (List ℕ) → ℤ → ℤ → Argb
analysis_draws most kind fx at planes sums = each_point (adjusted kind fx at sums) planes
