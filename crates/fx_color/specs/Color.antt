-- The colour effects as an effect set: kinds, schemas, and what each draws.
use Rattle.std.specs.Prelude.{ℕ, ◌==◌, ℤ, pos, neg_ℤ, List, [], ◌∷◌, codes, if◌then◌else◌}
use Rattle.geom_rect.specs.Rect.{positive_part}
use Rattle.argb_pixel.specs.Pixel.{Argb}
use Rattle.comp_stack.specs.Stack.{Plane}
use Rattle.project_model.specs.declared.effect.EffectSchema.{EffectSchema}
use Rattle.project_model.specs.declared.effect.ParamSchema.{ParamSchema}
use Rattle.project_model.specs.Effects.{Use}
use Rattle.effect_api.specs.declared.moment.Moment.{Moment}
use Rattle.effect_api.specs.Fits.{value_of}
use Rattle.effect_api.specs.Schemas.{param, plain_effect, data_effect}
use Rattle.effect_api.specs.Own.{each_point}
use Rattle.fx_color.specs.Formulas.{inverted, at_threshold, shifted, scaled, tinted_by, mapped}

-- from 0 to 10000
abbrev pub share : List ℕ → ParamSchema
share name = param name (pos 0) (pos 10000)

abbrev pub invert_schema : EffectSchema
invert_schema = plain_effect (codes "Invert") (param (codes "channel") (pos 0) (pos 3) ∷ [])

abbrev pub threshold_schema : EffectSchema
threshold_schema = plain_effect (codes "Threshold") (share (codes "level") ∷ [])

abbrev pub shift_schema : EffectSchema
shift_schema = plain_effect (codes "ChannelShift")
    (param (codes "red") (pos 0) (pos 4) ∷ param (codes "green") (pos 0) (pos 4) ∷ param (codes "blue") (pos 0) (pos 4) ∷ [])

abbrev pub scale_schema : EffectSchema
scale_schema = plain_effect (codes "ScaleOffset")
    (param (codes "scale") (pos 0) (pos 40000) ∷ param (codes "offset") (neg_ℤ (pos 10000)) (pos 10000) ∷ [])

abbrev pub tint_schema : EffectSchema
tint_schema = plain_effect (codes "Tint")
    (share (codes "black red") ∷ share (codes "black green") ∷ share (codes "black blue") ∷ share (codes "white red")
    ∷ share (codes "white green") ∷ share (codes "white blue") ∷ share (codes "amount") ∷ [])

-- from 1 to 256 entries of red, green and blue
abbrev pub palette_schema : EffectSchema
palette_schema = data_effect (codes "PaletteMap") record { unit = 3; least = 1; most = 256 }

-- by the numbers of their kinds
abbrev pub color_schemas : List EffectSchema
color_schemas =
    invert_schema ∷ threshold_schema ∷ shift_schema ∷ scale_schema ∷ tint_schema ∷ palette_schema ∷ []

-- a parameter that is not negative, at the moment
abbrev pub amount_of : Use → ℕ → Moment → ℕ
amount_of fx index at = positive_part (value_of at.base.ticks fx index at.tick.0)

-- a parameter at the moment
abbrev pub number_of : Use → ℕ → Moment → ℤ
number_of fx index at = value_of at.base.ticks fx index at.tick.0

-- what becomes of a pixel, by the kind
abbrev pub recoloured : ℕ → Use → Moment → Argb → Argb
recoloured kind fx at p =
    if kind == 0 then inverted (amount_of fx 0 at) p
    else (if kind == 1 then at_threshold (amount_of fx 0 at) p
    else (if kind == 2 then shifted (amount_of fx 0 at) (amount_of fx 1 at) (amount_of fx 2 at) p
    else (if kind == 3 then scaled (number_of fx 0 at) (number_of fx 1 at) p
    else (if kind == 4 then tinted_by (amount_of fx 6 at) (amount_of fx 0 at) (amount_of fx 3 at) (amount_of fx 1 at) (amount_of fx 4 at) (amount_of fx 2 at) (amount_of fx 5 at) p
    else mapped fx.sequence p))))

-- the input's pixel recoloured, and nothing outside the input
abbrev pub color_draws : ℕ → Use → Moment → List Plane → ℤ → ℤ → Argb
color_draws kind fx at planes = each_point (recoloured kind fx at) planes
