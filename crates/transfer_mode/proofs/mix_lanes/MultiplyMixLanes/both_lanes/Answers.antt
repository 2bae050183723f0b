use Rattle.transfer_mode.proofs.Rules.{multiply_le}
use Rattle.transfer_mode.proofs.mix_lanes.MultiplyMixLanes.both_lanes.Goals as goal

pub returns-clause-bound : goal.returns-clause-bound
returns-clause-bound g c l h = multiply_le l.sa l.da l.s l.d h.source h.destination
