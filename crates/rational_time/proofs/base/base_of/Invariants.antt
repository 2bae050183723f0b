use Rattle.std.proofs.Common.{take}
use Rattle.rational_time.specs.Times.{IsBaseOf}
use Rattle.rational_time.proofs.base.base_of.Given as goal

abbrev pub invariant-loop-index : goal.invariant-loop-index
invariant-loop-index l = IsBaseOf (take l.index l.times) l.ticks
