use Rattle.std.proofs.Common.{◌≡◌, ◌++◌, take}
use Rattle.std.specs.List.{flat_map}
use Rattle.project_model.specs.Times.{comp_times}
use Rattle.project_model.proofs.times.push_comps.Given as goal

abbrev pub invariant-loop-comp : goal.invariant-loop-comp
invariant-loop-comp l = l.times.items ≡ l.initial.times.items ++ flat_map comp_times (take l.comp-index l.comps)
