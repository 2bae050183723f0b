use Rattle.std.proofs.Common.{ℕ, ◌≤◌, List, map, min, ltb, replicate, ap, subst, sym, ◌∙◌, w16, w32, Fits, arith}
use lib.Lanes.{sel_l, Each1}
use Rattle.std.proofs.lemmas.Simd.{tops_compared, Each1-weaker, Each1-replicate}
use Rattle.std.proofs.lemmas.List.{map-id}
use Rattle.transfer_mode.proofs.Eights.{sel_first, least_is, least_fits, least_whole}
use Rattle.transfer_mode.proofs.lanes.narrow.Goals as goal

pub overflow_cast-result : goal.overflow_cast-result
overflow_cast-result c =
    let is = ap (λ ms. sel_l ms c.args.row (replicate 8 65535)) (tops_compared w32 ltb c.args.row (replicate 8 65535)) ∙ sel_first ltb min least_is c.args.row (replicate 8 65535) in
    subst (λ (v : List ℕ). Each1 (Fits w16) v) (sym is)
    (Each1-weaker (λ x. x ≤ 65535) (Fits w16) (λ x h. record { fits = omega (arith, h) }) _ (least_fits 65535 c.args.row (replicate 8 65535) (Each1-replicate (λ x. x ≤ 65535) 8 65535 (omega arith))))

pub returns : goal.returns
returns c fits =
    let is = ap (λ ms. sel_l ms c.args.row (replicate 8 65535)) (tops_compared w32 ltb c.args.row (replicate 8 65535)) ∙ sel_first ltb min least_is c.args.row (replicate 8 65535) in
    ap (map (λ (x : ℕ). x)) (is ∙ least_whole 65535 c.args.row 8 c.fits-row.0 fits) ∙ map-id c.args.row
