use Rattle.std.proofs.Common.{◌≡◌, nat_le, drop}
use Rattle.project_model.specs.Bounds.{most_layers_in_all}
use Rattle.project_model.specs.Form.{plain_layer_count}
use Rattle.project_model.proofs.form.are_few_layers.Given as goal

abbrev pub invariant-loop-comp : goal.invariant-loop-comp
invariant-loop-comp l =
    nat_le (plain_layer_count l.comps) most_layers_in_all ≡ nat_le (plain_layer_count (drop l.comp-index l.comps)) l.left
