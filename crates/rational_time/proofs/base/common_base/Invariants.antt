use Rattle.std.proofs.Common.{take, ◌≤◌}
use Rattle.rational_time.proofs.Multiples.{IsBase}
use Rattle.rational_time.proofs.base.common_base.Given as goal

abbrev pub invariant-loop-time : goal.invariant-loop-time
invariant-loop-time l = IsBase (take l.time-index l.times) l.base.ticks × (l.base.ticks ≤ 2147483647)
