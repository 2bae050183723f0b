use Rattle.std.proofs.Common.{◌≡◌, w32, arith}
use Rattle.std.specs.Int.RustNames.{FitsSigned}
use Rattle.std.proofs.lemmas.Int.{ints, clamps, to_z-of_z}
use Rattle.fx_blur.specs.Mosaic.{block_start}
use Rattle.fx_blur.proofs.block_sides.block_end.Goals as goal

pub overflow_cast-result : goal.overflow_cast-result
overflow_cast-result c = omega (arith, ints, clamps)

pub returns : goal.returns
returns c =
    let low_fits : FitsSigned w32 c.args.low = c.ranges.low in
    let x_fits : FitsSigned w32 c.args.x = c.ranges.x in
    let start : c.block_start.result ≡ block_start c.args.size c.args.low c.args.x = simp to_z-of_z at c.block_start.ensures in
    omega (arith, ints, clamps, start)
