use Rattle.std.proofs.Common.{◌≤◌, length}
use Rattle.std.specs.List.{All}
use Rattle.std.proofs.lemmas.List.Elements.{All-same}
use Rattle.project_model.specs.Bounds.{most_keys}
use Rattle.project_model.specs.declared.effect.FxUse.{FxUse}
use Rattle.scene_gen.proofs.Made.{few_values}
use Rattle.scene_gen.proofs.draws.Generator.layer.Goals as goal

pub invariant_of-result-clause-few_values : goal.invariant_of-result-clause-few_values
invariant_of-result-clause-few_values c =
    All-same (λ (fx : FxUse). All (λ curve. length curve.keys ≤ most_keys) fx.params) c.from_vec.result _ c.from_vec.ensures
    (few_values _ c.in_ok-effects.ensures.made)
