use Rattle.std.proofs.Common.{◌≡◌, ◌+◌, drop}
use Rattle.project_model.specs.Count.{layer_count}
use Rattle.scene_meaning.proofs.number.count_layers.Given as goal

abbrev pub invariant-loop-comp : goal.invariant-loop-comp
invariant-loop-comp l = l.count + layer_count (drop l.comp-index l.comps) ≡ layer_count l.comps
