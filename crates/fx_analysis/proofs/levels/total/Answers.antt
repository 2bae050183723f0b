use Rattle.std.proofs.Common.{arith}
use Rattle.fx_analysis.proofs.Found.{sum_within}
use Rattle.fx_analysis.proofs.levels.total.Goals as goal

pub sum-requires : goal.sum-requires
sum-requires c = omega (arith, sum_within c.args.counts.now c.requires)

pub returns-clause-within : goal.returns-clause-within
returns-clause-within c = omega (arith, sum_within c.args.counts.now c.requires, c.sum.ensures)
