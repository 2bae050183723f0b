use Rattle.std.proofs.Common.{◌≡◌, ℕ, ◌+◌, ◌*◌, ◌/◌, ◌%◌, ◌<◌, ◌≤◌, List, map, replicate, refl, ap, subst, sym, ◌∙◌, arith}
use lib.Lanes.{zip2, Each1}
use Rattle.std.proofs.Math.Nat.{mul-le-mul_left}
use Rattle.std.proofs.lemmas.Simd.{zip2_of_maps, splat_is_map, Each2-splat, Each1-all}
use Rattle.argb_pixel.specs.Pixel.{rounded}
use Rattle.transfer_mode.proofs.Eights.{map_where, each_map, channels_fit}
use Rattle.transfer_mode.proofs.scale.scale_two.Goals as goal

pub nonzero_div-parts : goal.nonzero_div-parts
nonzero_div-parts c = Each2-splat (λ (x y : ℕ). 0 < y) _ 8 10000 (Each1-all (λ (x : ℕ). 0 < 10000) (λ x. omega arith) _)

part_is : (opacity x : ℕ) → opacity ≤ 10000 → x ≤ 32768 → (x * opacity % 4294967296 + 5000) % 4294967296 / 10000 ≡ rounded (x * opacity) 10000
part_is opacity x part h =
    let most : x * opacity ≤ 32768 * 10000 = omega (arith, mul-le-mul_left {m = x} {n = 32768} opacity h, part) in
    omega (arith, most)

part_fits : (opacity x : ℕ) → opacity ≤ 10000 → x ≤ 32768 → rounded (x * opacity) 10000 ≤ 65535
part_fits opacity x part h =
    let most : x * opacity ≤ 32768 * 10000 = omega (arith, mul-le-mul_left {m = x} {n = 32768} opacity h, part) in
    omega (arith, most)

abbrev parts : List ℕ → ℕ → List ℕ
parts xs opacity = zip2 (λ (x y : ℕ). x / y) (zip2 (λ (x y : ℕ). (x + y) % 4294967296) (zip2 (λ (x y : ℕ). x * y % 4294967296) (map (λ (x : ℕ). x) xs) (replicate 8 opacity)) (replicate 8 5000)) (replicate 8 10000)

pub returns : goal.returns
returns c p q h k e =
    let xs = c.args.row in
    let long = c.fits-row.0 in
    let fits : Each1 (λ x. x ≤ 32768) xs = subst (Each1 (λ x. x ≤ 32768)) (sym e) (channels_fit 32768 p q h k) in
    let is : parts xs c.args.opacity ≡ map (λ x. rounded (x * c.args.opacity) 10000) xs =
    zip2_of_maps _ _ _ xs (zip2_of_maps _ _ _ xs (zip2_of_maps (λ (x y : ℕ). x * y % 4294967296) (λ (x : ℕ). x) (λ _. c.args.opacity) xs (ap (λ v. v) (let same : map (λ (x : ℕ). x) xs ≡ map (λ (x : ℕ). x) xs = refl in same)) (splat_is_map xs 8 c.args.opacity long)) (splat_is_map xs 8 5000 long)) (splat_is_map xs 8 10000 long)
    ∙ map_where (λ x. x ≤ 32768) _ (λ x. rounded (x * c.args.opacity) 10000) (λ x h. part_is c.args.opacity x c.requires.part h) xs fits in
    let few = each_map (λ x. x ≤ 32768) (λ x. x ≤ 65535) (λ x. rounded (x * c.args.opacity) 10000) (λ x h. part_fits c.args.opacity x c.requires.part h) xs fits in
    c.narrow.ensures (subst (Each1 (λ x. x ≤ 65535)) (sym is) few) ∙ is ∙ ap (map (λ x. rounded (x * c.args.opacity) 10000)) e
