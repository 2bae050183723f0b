use Rattle.std.proofs.Common.{◌≡◌, ◌++◌, take}
use Rattle.std.specs.List.{flat_map}
use Rattle.project_model.specs.Times.{fx_times}
use Rattle.project_model.proofs.times.push_effects.Given as goal

abbrev pub invariant-loop-fx : goal.invariant-loop-fx
invariant-loop-fx l = l.times.items ≡ l.initial.times.items ++ flat_map fx_times (take l.fx-index l.effects)
