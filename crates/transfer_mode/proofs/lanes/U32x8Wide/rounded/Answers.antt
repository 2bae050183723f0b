use Rattle.std.proofs.Common.{◌≡◌, ℕ, ◌+◌, ◌%◌, ◌/◌, ◌≤◌, ◌^◌, List, map, min, ltb, replicate, ap, subst, sym, ◌∙◌, w16, w32, Fits, arith}
use Rattle.argb_pixel.specs.Pixel.{rounded}
use lib.ListN.{length-map}
use lib.Lanes.{zip2, sel_l, Each1}
use Rattle.std.proofs.lemmas.List.{map-id}
use Rattle.std.proofs.lemmas.Simd.{zip2_of_maps, splat_is_map, tops_compared, Each1-weaker, Each1-replicate}
use Rattle.transfer_mode.proofs.Eights.{map_where, each_map, sel_first, least_is, least_fits, least_whole}
use Rattle.transfer_mode.proofs.lanes.U32x8Wide.rounded.Goals as goal

from_shift : (x : ℕ) → x ≤ 1073741824 → (x + 16384) % 4294967296 / 32768 ≡ rounded x 32768
from_shift x h = omega (arith, h)

abbrev shifted : List ℕ → List ℕ
shifted xs = zip2 (λ (x y : ℕ). x / 2 ^ y) (zip2 (λ (x y : ℕ). (x + y) % 4294967296) xs (replicate 8 16384)) (replicate 8 15)

least : (v : List ℕ) → sel_l (zip2 ltb v (replicate 8 65535)) v (replicate 8 65535) ≡ zip2 min v (replicate 8 65535)
least v = sel_first ltb min least_is v (replicate 8 65535)

pub overflow_cast-result : goal.overflow_cast-result
overflow_cast-result c =
    let is = ap (λ ms. sel_l ms (shifted c.args.self) (replicate 8 65535)) (tops_compared w32 ltb (shifted c.args.self) (replicate 8 65535)) ∙ least (shifted c.args.self) in
    subst (λ (v : List ℕ). Each1 (Fits w16) v) (sym is)
    (Each1-weaker (λ x. x ≤ 65535) (Fits w16) (λ x h. record { fits = omega (arith, h) }) _ (least_fits 65535 (shifted c.args.self) (replicate 8 65535) (Each1-replicate (λ x. x ≤ 65535) 8 65535 (omega arith))))

pub returns : goal.returns
returns c fits =
    let xs = c.args.self in
    let long = c.fits-self.0 in
    let is = ap (λ ms. sel_l ms (shifted xs) (replicate 8 65535)) (tops_compared w32 ltb (shifted xs) (replicate 8 65535)) ∙ least (shifted xs) in
    let by_lanes : shifted xs ≡ map (λ x. rounded x 32768) xs =
    zip2_of_maps _ _ _ xs (zip2_of_maps _ _ _ xs (sym (map-id xs)) (splat_is_map xs 8 16384 long)) (splat_is_map xs 8 15 long)
    ∙ map_where (λ x. x ≤ 1073741824) _ (λ x. rounded x 32768) from_shift xs fits in
    let small = each_map (λ x. x ≤ 1073741824) (λ x. x ≤ 65535) (λ x. rounded x 32768) (λ x h. omega (arith, h)) xs fits in
    ap (map (λ (x : ℕ). x)) (is ∙ ap (λ v. zip2 min v (replicate 8 65535)) by_lanes ∙ least_whole 65535 (map (λ x. rounded x 32768) xs) 8 (length-map xs (λ x. rounded x 32768) ∙ long) small)
    ∙ map-id (map (λ x. rounded x 32768) xs)
