use Rattle.std.proofs.Common.{map, take}
use Rattle.std.specs.List.{AllZip}
use Rattle.serde_json.specs.View.{view}
use Rattle.project_write.specs.Parts.{IsLayer}
use Rattle.project_write.proofs.layers.each_layer.Given as goal

abbrev pub invariant-loop-layer : goal.invariant-loop-layer
invariant-loop-layer l = AllZip (IsLayer l.schemas) (take l.layer-index l.layers) (map view l.values.items)
