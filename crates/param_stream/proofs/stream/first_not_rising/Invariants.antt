use Rattle.std.proofs.Common.{ℕ, ◌+◌, ◌<◌, ◌<ℤ◌}
use Rattle.param_stream.specs.Curve.{tick_at}
use Rattle.param_stream.proofs.stream.first_not_rising.Given as goal

abbrev pub invariant-loop-index : goal.invariant-loop-index
invariant-loop-index l = (i : ℕ) → i + 1 < l.index → tick_at l.base.ticks l.keys i <ℤ tick_at l.base.ticks l.keys (i + 1)
