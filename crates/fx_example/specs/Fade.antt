-- The effect set with one effect, Fade: each channel scaled by a parameter.
use Rattle.std.specs.Prelude.{ℕ, ℤ, pos, List, [], ◌∷◌, codes}
use Rattle.geom_rect.specs.Rect.{positive_part}
use Rattle.argb_pixel.specs.Pixel.{Argb, scale_of}
use Rattle.comp_stack.specs.Stack.{Plane}
use Rattle.project_model.specs.declared.effect.EffectSchema.{EffectSchema}
use Rattle.project_model.specs.Effects.{Use}
use Rattle.effect_api.specs.declared.moment.Moment.{Moment}
use Rattle.effect_api.specs.Fits.{value_of}
use Rattle.effect_api.specs.Schemas.{param, plain_effect}
use Rattle.effect_api.specs.Own.{each_point}

-- one parameter: how much is left, in 1/10000
abbrev pub fade_schema : EffectSchema
fade_schema = plain_effect (codes "Fade") (param (codes "amount") (pos 0) (pos 10000) ∷ [])

abbrev pub fade_schemas : List EffectSchema
fade_schemas = fade_schema ∷ []

-- its value at the moment
abbrev pub amount_of : Use → Moment → ℕ
amount_of fx at = positive_part (value_of at.base.ticks fx 0 at.tick.0)

-- what becomes of a pixel
abbrev pub faded : Use → Moment → Argb → Argb
faded fx at p = scale_of p (amount_of fx at)

-- what is drawn
abbrev pub fade_draws : Use → Moment → List Plane → ℤ → ℤ → Argb
fade_draws fx at planes = each_point (faded fx at) planes
