use Rattle.std.proofs.Common.{◌≡◌, map, take}
use Rattle.serde_json.specs.View.{view}
use Rattle.project_json.specs.Reads.{index_in}
use Rattle.project_json.proofs.plain_fx.each_index.Given as goal

abbrev pub invariant-loop-layer : goal.invariant-loop-layer
invariant-loop-layer l = l.plain.items ≡ map (λ v. index_in (view v)) (take l.layer-index l.layers)
