-- The laws of the stock set, from those of the sets that it is made of.
use Rattle.std.proofs.Common.{◌≡◌, ℕ, zero, suc, ◌<◌, ◌≤◌, List, length, refl, subst, sym, arith}
use Rattle.geom_rect.specs.declared.rect.Rect.{Rect}
use Rattle.comp_stack.specs.Stack.{Plane}
use Rattle.project_model.specs.declared.effect.EffectSchema.{EffectSchema}
use Rattle.project_model.specs.Effects.{Use, AreSchemas, FitsKind, schema_of}
use Rattle.effect_api.specs.declared.moment.Moment.{Moment}
use Rattle.effect_api.specs.Fits.{IsHeld, IsGiven, FitsSchema}
use Rattle.effect_api.specs.Planes.{extents_of}
use Rattle.effect_api.specs.Wants.{AreClassNames, AreWants, AreAsks, IsBounds}
use Rattle.effect_api.specs.Effects.{IsInput, IsDrawing, IsLocal}
use Rattle.effect_api.specs.Laws.{schemas_from_test, fits_schema, own_wants_are, no_asks_are, own_bounds_are}
use Rattle.fx_color.specs.Laws.{color_drawing, color_local}
use Rattle.fx_spatial.specs.Laws.{spatial_wants_are, spatial_bounds_are, spatial_drawing, spatial_local}
use Rattle.fx_time.specs.Laws.{time_wants_are, time_bounds_are, time_drawing, time_local}
use Rattle.fx_analysis.specs.Laws.{analysis_class_names_are, analysis_asks_are, analysis_sums_few, analysis_drawing, analysis_local}
use Rattle.fx_stock.specs.declared.part.Part.{Part}
use Rattle.fx_stock.specs.declared.part.Part.TheVariants.{Color, Spatial, Time, Analysis}
use Rattle.fx_stock.specs.Stock.{stock_schemas, stock_class_names, stock_sums, part_of, IsPart, part_schema, part_wants, part_asks, part_bounds, part_need, part_draws}

pub stock_schemas_are : AreSchemas stock_schemas
stock_schemas_are = schemas_from_test stock_schemas refl

pub stock_class_names_are : AreClassNames stock_class_names
stock_class_names_are = analysis_class_names_are

-- a use of a part
pub record IsUseOf (part : Part) (fx : Use) : Type 0 where
  pub known : IsPart part
  pub fits : FitsSchema (part_schema part) fx

-- a kind of the stock is one of a part, with its schema
part_known : (kind : ℕ) → kind < length stock_schemas → IsPart (part_of kind) × (schema_of stock_schemas kind ≡ part_schema (part_of kind))
part_known zero l = (omega arith, refl)
part_known (suc zero) l = (omega arith, refl)
part_known (suc (suc zero)) l = (omega arith, refl)
part_known (suc (suc (suc zero))) l = (omega arith, refl)
part_known (suc (suc (suc (suc zero)))) l = (omega arith, refl)
part_known (suc (suc (suc (suc (suc zero))))) l = (omega arith, refl)
part_known (suc (suc (suc (suc (suc (suc zero)))))) l = (tt, refl)
part_known (suc (suc (suc (suc (suc (suc (suc zero))))))) l = (tt, refl)
part_known (suc (suc (suc (suc (suc (suc (suc (suc zero)))))))) l = (tt, refl)
part_known (suc (suc (suc (suc (suc (suc (suc (suc (suc zero))))))))) l = (tt, refl)
part_known (suc (suc (suc (suc (suc (suc (suc (suc (suc (suc zero)))))))))) l = (tt, refl)
part_known (suc (suc (suc (suc (suc (suc (suc (suc (suc (suc (suc zero))))))))))) l = (tt, refl)
part_known (suc (suc (suc (suc (suc (suc (suc (suc (suc (suc (suc (suc zero)))))))))))) l = (tt, refl)
part_known (suc (suc (suc (suc (suc (suc (suc (suc (suc (suc (suc (suc (suc zero))))))))))))) l = (tt, refl)
part_known (suc (suc (suc (suc (suc (suc (suc (suc (suc (suc (suc (suc (suc (suc zero)))))))))))))) l = (tt, refl)
part_known (suc (suc (suc (suc (suc (suc (suc (suc (suc (suc (suc (suc (suc (suc (suc zero))))))))))))))) l = (tt, refl)
part_known (suc (suc (suc (suc (suc (suc (suc (suc (suc (suc (suc (suc (suc (suc (suc (suc zero)))))))))))))))) l = (tt, refl)
part_known (suc (suc (suc (suc (suc (suc (suc (suc (suc (suc (suc (suc (suc (suc (suc (suc (suc zero))))))))))))))))) l = (tt, refl)
part_known (suc (suc (suc (suc (suc (suc (suc (suc (suc (suc (suc (suc (suc (suc (suc (suc (suc (suc n)))))))))))))))))) l = absurd (omega (arith, l))

pub schema_is : (kind : ℕ) → kind < length stock_schemas → schema_of stock_schemas kind ≡ part_schema (part_of kind)
schema_is kind known = (part_known kind known).1

pub fits_part : (fx : Use) → FitsKind stock_schemas fx → IsUseOf (part_of fx.kind) fx
fits_part fx fits = record {
  known = (part_known fx.kind fits.known).0;
  fits = subst (λ (s : EffectSchema). FitsSchema s fx) (schema_is fx.kind fits.known) (fits_schema stock_schemas fx fits);
}

pub part_wants_are : (part : Part) (fx : Use) (at : Moment) → IsUseOf part fx → IsHeld at.base.ticks at.tick.0
    → AreWants (part_schema part).layers at.base.ticks (part_wants part fx at)
part_wants_are (Color kind) fx at is held = own_wants_are (part_schema (Color kind)).layers at held
part_wants_are (Spatial kind) fx at is held = spatial_wants_are kind at held
part_wants_are (Time kind) fx at is held = time_wants_are kind fx at is.fits
part_wants_are (Analysis kind) fx at is held = own_wants_are (part_schema (Analysis kind)).layers at held

pub part_asks_are : (part : Part) (fx : Use) (at : Moment) → IsUseOf part fx → IsHeld at.base.ticks at.tick.0
    → AreAsks (length stock_class_names) (part_schema part).layers at.base.ticks (part_asks part fx at)
part_asks_are (Color kind) fx at is held = no_asks_are 2 (part_schema (Color kind)).layers at.base.ticks
part_asks_are (Spatial kind) fx at is held = no_asks_are 2 (part_schema (Spatial kind)).layers at.base.ticks
part_asks_are (Time kind) fx at is held = no_asks_are 2 (part_schema (Time kind)).layers at.base.ticks
part_asks_are (Analysis kind) fx at is held = analysis_asks_are kind fx at is.fits held

pub part_bounds_are : (part : Part) (fx : Use) (at : Moment) (extents : List Rect) → IsUseOf part fx → length extents ≡ length (part_wants part fx at)
    → IsBounds extents (part_bounds part fx at extents)
part_bounds_are (Color kind) fx at extents is count = own_bounds_are extents count
part_bounds_are (Spatial kind) fx at extents is count = spatial_bounds_are kind fx at extents is.fits count
part_bounds_are (Time kind) fx at extents is count = time_bounds_are kind fx at extents count
part_bounds_are (Analysis kind) fx at extents is count = own_bounds_are extents count

pub part_draws_are : (most : ℕ) (part : Part) (fx : Use) (at : Moment) (planes : List Plane) (sums : List (List ℕ)) → IsUseOf part fx
    → IsInput most stock_sums (part_wants part fx at) (part_asks part fx at) planes sums
    → IsDrawing most (part_bounds part fx at (extents_of planes)) (part_draws most part fx at planes sums)
part_draws_are most (Color kind) fx at planes sums is input = color_drawing most stock_sums kind fx at planes sums is.known is.fits input
part_draws_are most (Spatial kind) fx at planes sums is input = spatial_drawing most stock_sums kind fx at planes sums is.fits input
part_draws_are most (Time kind) fx at planes sums is input = time_drawing most stock_sums kind fx at planes sums is.fits input
part_draws_are most (Analysis kind) fx at planes sums is input = analysis_drawing most stock_sums kind fx at planes sums input

pub part_draws_locally : (most : ℕ) (part : Part) (fx : Use) (at : Moment) (extents : List Rect) → IsUseOf part fx
    → IsLocal most stock_sums (part_wants part fx at) (part_asks part fx at) extents (λ rect i. part_need part fx at extents i rect) (part_draws most part fx at)
part_draws_locally most (Color kind) fx at extents is = color_local most stock_sums kind fx at extents
part_draws_locally most (Spatial kind) fx at extents is = spatial_local most stock_sums kind fx at extents is.fits
part_draws_locally most (Time kind) fx at extents is = time_local most stock_sums kind fx at extents
part_draws_locally most (Analysis kind) fx at extents is = analysis_local most stock_sums kind fx at extents

-- the same of a kind of the stock
pub stock_wants_are : (fx : Use) (at : Moment) → IsGiven stock_schemas fx at → AreWants (schema_of stock_schemas fx.kind).layers at.base.ticks (part_wants (part_of fx.kind) fx at)
stock_wants_are fx at given =
    subst (λ (s : EffectSchema). AreWants s.layers at.base.ticks (part_wants (part_of fx.kind) fx at)) (sym (schema_is fx.kind given.fits.known))
    (part_wants_are (part_of fx.kind) fx at (fits_part fx given.fits) given.held)

pub stock_asks_are : (fx : Use) (at : Moment) → IsGiven stock_schemas fx at → AreAsks (length stock_class_names) (schema_of stock_schemas fx.kind).layers at.base.ticks (part_asks (part_of fx.kind) fx at)
stock_asks_are fx at given =
    subst (λ (s : EffectSchema). AreAsks (length stock_class_names) s.layers at.base.ticks (part_asks (part_of fx.kind) fx at)) (sym (schema_is fx.kind given.fits.known))
    (part_asks_are (part_of fx.kind) fx at (fits_part fx given.fits) given.held)

pub stock_sums_few : (class ask : ℕ) (plane : Plane) → length (stock_sums class ask plane) ≤ 65536
stock_sums_few class ask plane = analysis_sums_few class ask plane
