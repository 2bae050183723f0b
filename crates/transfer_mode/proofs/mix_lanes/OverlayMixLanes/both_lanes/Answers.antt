use Rattle.transfer_mode.proofs.Rules.{overlay_le}
use Rattle.std.proofs.Common.{◌∙◌}
use Rattle.std.proofs.lemmas.Simd.{zip2_of_maps}
use Rattle.transfer_mode.specs.Lanes.{IsLane}
use Rattle.transfer_mode.proofs.Eights.{map_where, sel_of_maps}
use Rattle.transfer_mode.proofs.Mixing.{fit_of, overlay_lane}
use Rattle.transfer_mode.proofs.mix_lanes.OverlayMixLanes.both_lanes.Goals as goal

pub returns-clause-value : goal.returns-clause-value
returns-clause-value g c ls fits all p q t =
    c.choose.ensures ∙ sel_of_maps _ _ _ _ _ ls (q) (c.less-rest.ensures ∙ zip2_of_maps _ _ _ ls (all) (q)) (c.plus.ensures ∙ zip2_of_maps _ _ _ ls (t) (t)) (c.less-2.ensures ∙ zip2_of_maps _ _ _ ls (all) (c.plus-2.ensures ∙ zip2_of_maps _ _ _ ls (c.less-left.ensures ∙ zip2_of_maps _ _ _ ls (c.less-rest.ensures ∙ zip2_of_maps _ _ _ ls (all) (q)) (c.less.ensures ∙ zip2_of_maps _ _ _ ls (p) (t))) (c.less-left.ensures ∙ zip2_of_maps _ _ _ ls (c.less-rest.ensures ∙ zip2_of_maps _ _ _ ls (all) (q)) (c.less.ensures ∙ zip2_of_maps _ _ _ ls (p) (t)))))
    ∙ map_where (IsLane _) _ _ (λ l h. overlay_lane _ l (fit_of _ _ c.requires.small l h)) ls fits

pub returns-clause-bound : goal.returns-clause-bound
returns-clause-bound g c l h = overlay_le l.sa l.da l.s l.d h.source h.destination
