use Rattle.transfer_mode.proofs.Rules.{hard_mix_le}
use Rattle.std.proofs.Common.{◌∙◌}
use Rattle.std.proofs.lemmas.Simd.{zip2_of_maps}
use Rattle.transfer_mode.specs.Lanes.{IsLane}
use Rattle.transfer_mode.proofs.Eights.{map_where, sel_of_maps}
use Rattle.transfer_mode.proofs.Mixing.{fit_of, hard_mix_lane}
use Rattle.transfer_mode.proofs.mix_lanes.HardMixMixLanes.both_lanes.Goals as goal

pub returns-clause-value : goal.returns-clause-value
returns-clause-value g c ls fits all p q t =
    c.choose.ensures ∙ sel_of_maps _ _ _ _ _ ls (c.less.ensures ∙ zip2_of_maps _ _ _ ls (all) (q)) (p) (all) (c.less-2.ensures ∙ zip2_of_maps _ _ _ ls (all) (all))
    ∙ map_where (IsLane _) _ _ (λ l h. hard_mix_lane _ l (fit_of _ _ c.requires.small l h)) ls fits

pub returns-clause-bound : goal.returns-clause-bound
returns-clause-bound g c l h = hard_mix_le l.sa l.da l.s l.d h.source h.destination
