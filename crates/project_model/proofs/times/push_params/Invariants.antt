use Rattle.std.proofs.Common.{◌≡◌, ◌++◌, take}
use Rattle.std.specs.List.{flat_map}
use Rattle.project_model.specs.Times.{key_times}
use Rattle.project_model.proofs.times.push_params.Given as goal

abbrev pub invariant-loop-keys : goal.invariant-loop-keys
invariant-loop-keys l = l.times.items ≡ l.initial.times.items ++ flat_map key_times (take l.keys-index l.params)
