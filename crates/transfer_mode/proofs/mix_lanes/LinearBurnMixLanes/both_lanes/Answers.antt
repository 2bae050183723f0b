use Rattle.transfer_mode.proofs.Rules.{linear_burn_le}
use Rattle.std.proofs.Common.{◌∙◌}
use Rattle.std.proofs.lemmas.Simd.{zip2_of_maps}
use Rattle.transfer_mode.specs.Lanes.{IsLane}
use Rattle.transfer_mode.proofs.Eights.{map_where}
use Rattle.transfer_mode.proofs.Mixing.{fit_of, linear_burn_lane}
use Rattle.transfer_mode.proofs.mix_lanes.LinearBurnMixLanes.both_lanes.Goals as goal

pub returns-clause-value : goal.returns-clause-value
returns-clause-value g c ls fits all p q t =
    c.beyond.ensures ∙ zip2_of_maps _ _ _ ls (p) (c.less.ensures ∙ zip2_of_maps _ _ _ ls (all) (q))
    ∙ map_where (IsLane _) _ _ (λ l h. linear_burn_lane _ l (fit_of _ _ c.requires.small l h)) ls fits

pub returns-clause-bound : goal.returns-clause-bound
returns-clause-bound g c l h = linear_burn_le l.sa l.da l.s l.d h.source h.destination
