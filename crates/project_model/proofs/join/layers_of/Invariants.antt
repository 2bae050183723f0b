use Rattle.std.proofs.Common.{◌≡◌, map}
use Rattle.std.specs.List.{All}
use Rattle.project_model.specs.Plain.{plain_layer}
use Rattle.project_model.specs.Ready.{IsBasedLayer}
use Rattle.project_model.proofs.join.layers_of.Given as goal

abbrev pub invariant-loop-layer : goal.invariant-loop-layer
invariant-loop-layer l = (map plain_layer l.layers.items ≡ l.yielded) × All (IsBasedLayer l.base.ticks) l.layers.items
