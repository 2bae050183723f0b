use Rattle.transfer_mode.proofs.Rules.{darken_le}
use Rattle.std.proofs.Common.{◌∙◌}
use Rattle.std.proofs.lemmas.Simd.{zip2_of_maps}
use Rattle.transfer_mode.proofs.mix_lanes.DarkenMixLanes.both_lanes.Goals as goal

pub returns-clause-value : goal.returns-clause-value
returns-clause-value g c ls fits all p q t =
    c.least.ensures ∙ zip2_of_maps _ _ _ ls (p) (q)

pub returns-clause-bound : goal.returns-clause-bound
returns-clause-bound g c l h = darken_le l.sa l.da l.s l.d h.source h.destination
