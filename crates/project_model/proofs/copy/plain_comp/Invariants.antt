use Rattle.std.proofs.Common.{◌≡◌, ◌≤◌, map, take}
use Rattle.std.specs.List.{All}
use Rattle.project_model.specs.Form.{IsFormedLayer}
use Rattle.project_model.specs.Plain.{plain_layer}
use Rattle.project_model.specs.Times.{layer_times}
use Rattle.project_model.proofs.copy.plain_comp.Given as goal

abbrev pub invariant-loop-layer : goal.invariant-loop-layer
invariant-loop-layer l =
    (l.layers.items ≡ map plain_layer (take l.layer-index l.layer-items))
    × All IsFormedLayer l.layers.items
    × All (λ layer. All (λ time. 1 ≤ time.scale) (layer_times layer)) l.layers.items
