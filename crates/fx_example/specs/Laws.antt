-- The laws of Fade.
use Rattle.std.proofs.Common.{◌≡◌, ℕ, zero, suc, ◌≤◌, ℤ, pos, negsuc, ◌≤ℤ◌, List, [], length, refl, subst, arith, ◌+◌, ◌*◌, ◌/◌}
use Rattle.std.proofs.lemmas.Int.{ints}
use Rattle.geom_rect.specs.declared.rect.Rect.{Rect}
use Rattle.geom_rect.specs.Rect.{positive_part}
use Rattle.argb_pixel.specs.Pixel.{Argb, IsPremultiplied, clear}
use Rattle.argb_pixel.proofs.Channels.{part_premultiplied, same_argb}
use Rattle.comp_stack.specs.Stack.{Plane}
use Rattle.project_model.specs.Effects.{Use, AreSchemas, FitsKind, schema_of}
use Rattle.effect_api.specs.declared.moment.Moment.{Moment}
use Rattle.effect_api.specs.Fits.{FitsSchema}
use Rattle.effect_api.specs.Planes.{extents_of}
use Rattle.effect_api.specs.Effects.{IsInput, IsDrawing, IsLocal}
use Rattle.effect_api.specs.Own.{own_wants, own_bounds, no_sums}
use Rattle.effect_api.specs.Laws.{schemas_from_test, fits_schema, value_in_range, part_within, each_point_drawing, each_point_local}
use Rattle.fx_example.specs.Fade.{fade_schema, fade_schemas, amount_of, faded, fade_draws}

-- the schemas are sound, by computing
pub fade_schemas_are : AreSchemas fade_schemas
fade_schemas_are = schemas_from_test fade_schemas refl

-- a use of the set is one of its only kind
pub fade_fits : (fx : Use) → FitsKind fade_schemas fx → FitsSchema fade_schema fx
fade_fits fx fits = subst (λ (kind : ℕ). FitsSchema (schema_of fade_schemas kind) fx) only (fits_schema fade_schemas fx fits)
  where
    only : fx.kind ≡ 0
    only = omega (arith, fits.known)

-- the amount is in its range
pub amount_within : (fx : Use) (at : Moment) → FitsSchema fade_schema fx → amount_of fx at ≤ 10000
amount_within fx at fits = part_within _ 10000 (value_in_range fade_schema.params fx.params at.base.ticks 0 at.tick.0 fits.in_range).1

-- a pixel stays premultiplied, and a transparent one transparent
pub faded_keeps : (most : ℕ) (fx : Use) (at : Moment) → FitsSchema fade_schema fx → (p : Argb) → IsPremultiplied most p → IsPremultiplied most (faded fx at p)
faded_keeps most fx at fits p is = part_premultiplied most 10000 (amount_of fx at) p (omega arith) (amount_within fx at fits) is

pub faded_clear : (fx : Use) (at : Moment) → faded fx at clear ≡ clear
faded_clear fx at = same_argb _ 0 _ 0 _ 0 _ 0 none none none none
  where
    none : (0 * amount_of fx at + 5000) / 10000 ≡ 0
    none = omega arith

-- what is drawn is a picture within the bounds, and no point is drawn from another
pub fade_drawing : (most : ℕ) (fx : Use) (at : Moment) (planes : List Plane) (sums : List (List ℕ)) → FitsKind fade_schemas fx
    → IsInput most no_sums (own_wants at) [] planes sums → IsDrawing most (own_bounds (extents_of planes)) (fade_draws fx at planes)
fade_drawing most fx at planes sums fits given =
    each_point_drawing most no_sums [] at planes sums (faded fx at) (faded_keeps most fx at (fade_fits fx fits)) given

pub fade_local : (most : ℕ) (fx : Use) (at : Moment) (extents : List Rect)
    → IsLocal most no_sums (own_wants at) [] extents (λ rect i. rect) (λ planes sums. fade_draws fx at planes)
fade_local most fx at extents = each_point_local most no_sums [] at extents (faded fx at)
