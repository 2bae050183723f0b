use Rattle.std.proofs.Common.{rules, ℤ, List, subst, sym, ap, ◌∙◌, w64}
use Rattle.std.specs.Int.RustNames.{FitsSigned}
use Rattle.std.proofs.lemmas.Int.{to_z-of_z}
use Rattle.param_stream.specs.declared.key.Keyframe.{Keyframe}
use Rattle.param_stream.specs.Curve.{IsBetween, value_at}
use Rattle.effect_api.specs.Fits.{param_of}
use Rattle.effect_api.specs.Laws.{value_in_range}
use Rattle.effect_api.proofs.Params.{no_keys, value_found}
use Rattle.effect_api.proofs.param.checkout_param.Goals as goal

pub returns-in-Some-clause-value : goal.returns-in-Some-clause-value
returns-in-Some-clause-value c =
    let fits : FitsSigned w64 c.value_at.result = search rules in
    to_z-of_z w64 c.value_at.result fits ∙ c.value_at.ensures
    ∙ value_found c.args.fx.now.params c.args.index c.args.at.base.ticks c.in-Some.stream.now c.args.tick.0 c.requires (sym c.in-Some.ensures)

pub returns-in-None-clause-value : goal.returns-in-None-clause-value
returns-in-None-clause-value c =
    ap (λ (keys : List Keyframe). value_at c.args.at.base.ticks keys c.args.tick.0) (sym (no_keys c.args.fx.now.params c.args.index (sym c.in-None.ensures)))

pub returns-in-Some-clause-within : goal.returns-in-Some-clause-within
returns-in-Some-clause-within c params fits =
    subst (λ (v : ℤ). IsBetween (param_of params c.args.index).least (param_of params c.args.index).most v) (sym (returns-in-Some-clause-value c))
    (value_in_range params _ c.args.at.base.ticks c.args.index c.args.tick.0 fits)

pub returns-in-None-clause-within : goal.returns-in-None-clause-within
returns-in-None-clause-within c params fits =
    subst (λ (v : ℤ). IsBetween (param_of params c.args.index).least (param_of params c.args.index).most v) (sym (returns-in-None-clause-value c))
    (value_in_range params _ c.args.at.base.ticks c.args.index c.args.tick.0 fits)
