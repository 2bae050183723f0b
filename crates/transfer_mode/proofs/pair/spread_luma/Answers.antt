use Rattle.transfer_mode.proofs.Pairs.{luma_of_pair}
use Rattle.transfer_mode.proofs.pair.spread_luma.Goals as goal
use Rattle.std.proofs.Common.{refl}

pub returns : goal.returns
returns c p q h k e = luma_of_pair p q c.args.row _ _ _ _ _ h k e refl c.neighbours.ensures refl c.halves.ensures c.part_of_256.ensures
