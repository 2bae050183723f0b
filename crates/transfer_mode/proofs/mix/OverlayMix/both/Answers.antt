use Rattle.std.proofs.Common.{◌-◌, arith}
use Rattle.transfer_mode.proofs.Bounds.{twice_le}
use Rattle.transfer_mode.proofs.mix.OverlayMix.both.Goals as goal

pub overflow_sub-result-else-d-da-2 : goal.overflow_sub-result-else-d-da-2
overflow_sub-result-else-d-da-2 c = omega (arith, twice_le (c.args.sa - c.args.s) (c.args.da - c.args.d) c.args.sa c.args.da (omega arith) (omega arith))

pub returns-then-d-da-clause-bound : goal.returns-then-d-da-clause-bound
returns-then-d-da-clause-bound c = omega (arith, twice_le c.args.s c.args.d c.args.sa c.args.da c.requires.source (omega arith))
