use Rattle.transfer_mode.proofs.Rules.{add_le}
use Rattle.std.proofs.Common.{◌∙◌}
use Rattle.std.proofs.lemmas.Simd.{zip2_of_maps}
use Rattle.transfer_mode.specs.Lanes.{IsLane}
use Rattle.transfer_mode.proofs.Eights.{map_where}
use Rattle.transfer_mode.proofs.Mixing.{fit_of, add_lane}
use Rattle.transfer_mode.proofs.mix_lanes.AddMixLanes.both_lanes.Goals as goal

pub returns-clause-value : goal.returns-clause-value
returns-clause-value g c ls fits all p q t =
    c.plus.ensures ∙ zip2_of_maps _ _ _ ls (p) (c.least.ensures ∙ zip2_of_maps _ _ _ ls (q) (c.less.ensures ∙ zip2_of_maps _ _ _ ls (all) (p)))
    ∙ map_where (IsLane _) _ _ (λ l h. add_lane _ l (fit_of _ _ c.requires.small l h)) ls fits

pub returns-clause-bound : goal.returns-clause-bound
returns-clause-bound g c l h = add_le l.sa l.da l.s l.d h.source h.destination
