use Rattle.transfer_mode.proofs.Rules.{subtract_le}
use Rattle.std.proofs.Common.{◌∙◌}
use Rattle.std.proofs.lemmas.Simd.{zip2_of_maps}
use Rattle.transfer_mode.proofs.mix_lanes.SubtractMixLanes.both_lanes.Goals as goal

pub returns-clause-value : goal.returns-clause-value
returns-clause-value g c ls fits all p q t =
    c.beyond.ensures ∙ zip2_of_maps _ _ _ ls (q) (p)

pub returns-clause-bound : goal.returns-clause-bound
returns-clause-bound g c l h = subtract_le l.sa l.da l.s l.d h.source h.destination
