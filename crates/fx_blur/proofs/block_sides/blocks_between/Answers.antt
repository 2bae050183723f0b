use Rattle.std.proofs.Common.{◌≡◌, ℤ, pos, ◌-ℤ◌, w32, ap, ◌∙◌, rules}
use Rattle.std.specs.Int.RustNames.{FitsSigned}
use Rattle.std.proofs.lemmas.Int.{to_z-of_z}
use Rattle.geom_rect.specs.declared.rect.Rect.{Rect}
use Rattle.geom_rect.specs.Rect.{hull_of}
use Rattle.fx_blur.specs.Mosaic.{block_of}
use Rattle.fx_blur.proofs.block_sides.blocks_between.Goals as goal

pub returns : goal.returns
returns c =
    let left_fits : FitsSigned w32 c.args.met.now.left = search rules in
    let top_fits : FitsSigned w32 c.args.met.now.top = search rules in
    let far_left_fits : FitsSigned w32 c.args.met.now.right = search rules in
    let far_top_fits : FitsSigned w32 c.args.met.now.bottom = search rules in
    let right_fits : FitsSigned w32 c.last_before-right.result = search rules in
    let bottom_fits : FitsSigned w32 c.last_before-bottom.result = search rules in
    let right : c.last_before-right.result ≡ c.args.met.now.right -ℤ pos 1 = simp to_z-of_z at c.last_before-right.ensures in
    let bottom : c.last_before-bottom.result ≡ c.args.met.now.bottom -ℤ pos 1 = simp to_z-of_z at c.last_before-bottom.ensures in
    let near : c.block-near.result ≡ block_of c.args.size c.args.extent.now c.args.met.now.left c.args.met.now.top = simp to_z-of_z at c.block-near.ensures in
    let far : c.block-far.result ≡ block_of c.args.size c.args.extent.now c.last_before-right.result c.last_before-bottom.result = simp to_z-of_z at c.block-far.ensures in
    c.hull.ensures ∙ ap (λ (r : Rect). hull_of r c.block-far.result) near
    ∙ ap (hull_of (block_of c.args.size c.args.extent.now c.args.met.now.left c.args.met.now.top))
    (far ∙ ap (λ (x : ℤ). block_of c.args.size c.args.extent.now x c.last_before-bottom.result) right ∙ ap (block_of c.args.size c.args.extent.now (c.args.met.now.right -ℤ pos 1)) bottom)
