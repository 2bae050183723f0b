use Rattle.std.proofs.Common.{◌≡◌, ◌++◌, take}
use Rattle.std.specs.List.{flat_map}
use Rattle.project_model.specs.Times.{layer_times}
use Rattle.project_model.proofs.times.push_comp.Given as goal

abbrev pub invariant-loop-layer : goal.invariant-loop-layer
invariant-loop-layer l = l.times.items ≡ l.initial.times.items ++ flat_map layer_times (take l.layer-index l.layer-items)
