use Rattle.std.proofs.Common.{arith}
use Rattle.transfer_mode.proofs.Bounds.{both_left}
use Rattle.transfer_mode.proofs.mix.ExclusionMix.both.Goals as goal

pub returns-clause-bound : goal.returns-clause-bound
returns-clause-bound c = omega (arith, both_left c.args.sa c.args.da c.args.s c.args.d c.requires.source c.requires.destination)
