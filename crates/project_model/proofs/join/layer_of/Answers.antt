use Rattle.project_model.proofs.Joined.{few_effects, few_values}
use Rattle.project_model.proofs.join.layer_of.Goals as goal

pub invariant_of-result-clause-few_effects : goal.invariant_of-result-clause-few_effects
invariant_of-result-clause-few_effects c = few_effects _ _ c.in_ok-effects.ensures.plain c.requires.ready.few_effects

pub invariant_of-result-clause-few_values : goal.invariant_of-result-clause-few_values
invariant_of-result-clause-few_values c = few_values c.args.schemas.now c.args.base.ticks _ _ c.in_ok-effects.ensures.plain c.requires.ready.effects
