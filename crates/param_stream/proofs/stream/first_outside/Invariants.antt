use Rattle.std.proofs.Common.{ℕ, ◌<◌}
use Rattle.param_stream.specs.Curve.{key_at, IsBetween}
use Rattle.param_stream.proofs.stream.first_outside.Given as goal

abbrev pub invariant-loop-index : goal.invariant-loop-index
invariant-loop-index l = (i : ℕ) → i < l.index → IsBetween l.least l.most (key_at l.keys i).value
