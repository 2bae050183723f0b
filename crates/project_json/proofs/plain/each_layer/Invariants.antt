use Rattle.std.proofs.Common.{◌≡◌, map, take}
use Rattle.serde_json.specs.View.{view}
use Rattle.project_json.specs.PlainData.{plain_layer_of}
use Rattle.project_json.proofs.plain.each_layer.Given as goal

abbrev pub invariant-loop-layer : goal.invariant-loop-layer
invariant-loop-layer l = l.plain.items ≡ map (λ v. plain_layer_of l.schemas (view v)) (take l.layer-index l.layers)
