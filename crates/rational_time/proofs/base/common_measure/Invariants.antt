use Rattle.std.proofs.Common.{ℕ}
use Rattle.rational_time.specs.Measure.{IsMeasure}
use Rattle.rational_time.proofs.base.common_measure.Given as goal

abbrev pub invariant-loop-y : goal.invariant-loop-y
invariant-loop-y l = (g : ℕ) → IsMeasure l.x l.y g → IsMeasure l.fn.a l.fn.b g

abbrev pub decreases-loop-y : goal.decreases-loop-y
decreases-loop-y l = l.y
