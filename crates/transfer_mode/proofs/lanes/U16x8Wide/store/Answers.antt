use Rattle.std.proofs.Common.{◌≡◌, ℕ, ◌≤◌, ◌++◌, List, map, min, ltb, refl, replicate, ap, subst, sym, ◌∙◌, w8, w16, Fits, arith}
use lib.Lanes.{zip2, sel_l, put_chunk, Each1}
use Rattle.std.proofs.lemmas.List.{map-id}
use Rattle.std.proofs.lemmas.Simd.{tops_compared, put_chunk_is, Each1-weaker, Each1-replicate}
use Rattle.transfer_mode.specs.Lanes.{channels}
use Rattle.transfer_mode.proofs.Eights.{sel_first, least_is, least_fits, least_whole, channels_fit}
use Rattle.transfer_mode.proofs.lanes.U16x8Wide.store.Goals as goal

pub overflow_cast-into : goal.overflow_cast-into
overflow_cast-into c =
    let is = ap (λ ms. sel_l ms c.args.row (replicate 8 255)) (tops_compared w16 ltb c.args.row (replicate 8 255)) ∙ sel_first ltb min least_is c.args.row (replicate 8 255) in
    subst (λ (v : List ℕ). Each1 (Fits w8) v) (sym is) (Each1-weaker (λ x. x ≤ 255) (Fits w8) (λ x h. record { fits = omega (arith, h) }) _ (least_fits 255 c.args.row (replicate 8 255) (Each1-replicate (λ x. x ≤ 255) 8 255 (omega arith))))

pub returns : goal.returns
returns c p q fits fits' e =
    let narrow : (v : List ℕ) → map (λ (x : ℕ). x) v ≡ v = map-id in
    let is = ap (λ ms. sel_l ms c.args.row (replicate 8 255)) (tops_compared w16 ltb c.args.row (replicate 8 255)) ∙ sel_first ltb min least_is c.args.row (replicate 8 255) in
    let whole = is ∙ ap (λ v. zip2 min v (replicate 8 255)) e ∙ least_whole 255 (channels p ++ channels q) 8 refl (channels_fit 255 p q fits fits') in
    ap (λ v. put_chunk c.args.at c.args.into.now (map (λ (x : ℕ). x) v)) whole ∙ put_chunk_is c.args.at c.args.into.now (channels p ++ channels q) (omega (arith, c.requires))
