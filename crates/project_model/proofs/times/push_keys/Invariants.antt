use Rattle.std.proofs.Common.{◌≡◌, ◌++◌, take}
use Rattle.project_model.specs.Times.{key_times}
use Rattle.project_model.proofs.times.push_keys.Given as goal

abbrev pub invariant-loop-key : goal.invariant-loop-key
invariant-loop-key l = l.times.items ≡ l.initial.times.items ++ key_times (take l.key-index l.keys)
