use Rattle.std.proofs.Common.{ℤ, pos, neg_ℤ, ◌∙◌, w32, ◌≤ℤ◌, arith, subst, sym, rules}
use Rattle.std.proofs.lemmas.Int.{ints, to_z-of_z}
use Rattle.std.specs.Int.RustNames.{FitsSigned}
use Rattle.project_model.specs.Effects.{Use, use_of}
use Rattle.effect_api.specs.declared.moment.Moment.{Moment}
use Rattle.effect_api.specs.Fits.{FitsSchema}
use Rattle.fx_color.specs.Color.{number_of, scale_schema}
use Rattle.fx_color.specs.Laws.{number_within}
use Rattle.fx_color.proofs.params.scale_of.Goals as goal

abbrev Within : ℤ → Type 0
Within z = (neg_ℤ (pos 40000) ≤ℤ z) × (z ≤ℤ pos 40000)

scale_within : (fx : Use) (at : Moment) → FitsSchema scale_schema fx → Within (number_of fx 0 at)
scale_within fx at fits = let h = number_within scale_schema fx at 0 fits in (omega (arith, ints, h.0), omega (arith, ints, h.1))

offset_within : (fx : Use) (at : Moment) → FitsSchema scale_schema fx → Within (number_of fx 1 at)
offset_within fx at fits = let h = number_within scale_schema fx at 1 fits in (omega (arith, ints, h.0), omega (arith, ints, h.1))

pub number-requires-clause-range : goal.number-requires-clause-range
number-requires-clause-range c = scale_within (use_of c.args.fx.now) c.args.at c.requires.fits

pub number-requires-2-clause-range : goal.number-requires-2-clause-range
number-requires-2-clause-range c = offset_within (use_of c.args.fx.now) c.args.at c.requires.fits

pub invariant_of-result : goal.invariant_of-result
invariant_of-result c =
    let scale_fits : FitsSigned w32 c.number.result = search rules in
    let offset_fits : FitsSigned w32 c.number-2.result = search rules in
    let scale = subst Within (sym (to_z-of_z w32 c.number.result scale_fits ∙ c.number.ensures)) (scale_within (use_of c.args.fx.now) c.args.at c.requires.fits) in
    let offset = subst Within (sym (to_z-of_z w32 c.number-2.result offset_fits ∙ c.number-2.ensures)) (offset_within (use_of c.args.fx.now) c.args.at c.requires.fits) in
    record { scale_low = scale.0; scale_high = scale.1; offset_low = offset.0; offset_high = offset.1 }
