use Rattle.std.proofs.Common.{arith}
use Rattle.rational_time.proofs.Measures.{measure_at_zero, measure_step}
use Rattle.rational_time.proofs.base.common_measure.Goals as goal

pub loop-y-preserved : goal.loop-y-preserved
loop-y-preserved c g h = c.loop-y.invariant g (measure_step _ _ g h)

pub returns : goal.returns
returns c = c.loop-y.invariant _ (measure_at_zero _ _ (omega arith))
