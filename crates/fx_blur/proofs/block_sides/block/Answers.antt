use Rattle.std.proofs.Common.{◌≡◌, w32, arith, rules}
use Rattle.std.specs.Int.RustNames.{FitsSigned}
use Rattle.std.proofs.lemmas.Int.{ints, to_z-of_z}
use Rattle.geom_rect.proofs.Points.{same_rect}
use Rattle.fx_blur.specs.Mosaic.{block_start, block_end}
use Rattle.fx_blur.proofs.block_sides.block.Goals as goal

pub returns : goal.returns
returns c =
    let x_fits : FitsSigned w32 c.args.x = c.ranges.x in
    let y_fits : FitsSigned w32 c.args.y = c.ranges.y in
    let left_fits : FitsSigned w32 c.args.extent.now.left = search rules in
    let top_fits : FitsSigned w32 c.args.extent.now.top = search rules in
    let right_fits : FitsSigned w32 c.args.extent.now.right = search rules in
    let bottom_fits : FitsSigned w32 c.args.extent.now.bottom = search rules in
    let left : c.block_start.result ≡ block_start c.args.size c.args.extent.now.left c.args.x = simp to_z-of_z at c.block_start.ensures in
    let top : c.block_start-2.result ≡ block_start c.args.size c.args.extent.now.top c.args.y = simp to_z-of_z at c.block_start-2.ensures in
    let right : c.block_end.result ≡ block_end c.args.size c.args.extent.now.left c.args.extent.now.right c.args.x = simp to_z-of_z at c.block_end.ensures in
    let bottom : c.block_end-2.result ≡ block_end c.args.size c.args.extent.now.top c.args.extent.now.bottom c.args.y = simp to_z-of_z at c.block_end-2.ensures in
    same_rect _ _ (omega (arith, ints)) (omega (arith, ints)) (omega (arith, ints)) (omega (arith, ints))
