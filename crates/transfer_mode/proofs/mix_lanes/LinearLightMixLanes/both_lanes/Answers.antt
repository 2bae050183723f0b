use Rattle.transfer_mode.proofs.Rules.{linear_light_le}
use Rattle.std.proofs.Common.{◌∙◌}
use Rattle.std.proofs.lemmas.Simd.{zip2_of_maps}
use Rattle.transfer_mode.specs.Lanes.{IsLane}
use Rattle.transfer_mode.proofs.Eights.{map_where}
use Rattle.transfer_mode.proofs.Mixing.{fit_of, linear_light_lane}
use Rattle.transfer_mode.proofs.mix_lanes.LinearLightMixLanes.both_lanes.Goals as goal

pub returns-clause-value : goal.returns-clause-value
returns-clause-value g c ls fits all p q t =
    c.beyond-3.ensures ∙ zip2_of_maps _ _ _ ls (c.plus-risen.ensures ∙ zip2_of_maps _ _ _ ls (q) (c.least.ensures ∙ zip2_of_maps _ _ _ ls (c.less.ensures ∙ zip2_of_maps _ _ _ ls (all) (q)) (c.beyond.ensures ∙ zip2_of_maps _ _ _ ls (p) (c.less-rest.ensures ∙ zip2_of_maps _ _ _ ls (all) (p))))) (c.beyond-2.ensures ∙ zip2_of_maps _ _ _ ls (c.less-rest.ensures ∙ zip2_of_maps _ _ _ ls (all) (p)) (p))
    ∙ map_where (IsLane _) _ _ (λ l h. linear_light_lane _ l (fit_of _ _ c.requires.small l h)) ls fits

pub returns-clause-bound : goal.returns-clause-bound
returns-clause-bound g c l h = linear_light_le l.sa l.da l.s l.d h.source h.destination
