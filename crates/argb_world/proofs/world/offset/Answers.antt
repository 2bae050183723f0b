use Rattle.std.proofs.Common.{pos, ◌-ℤ◌, ◌≤ℤ◌, ◌∙◌, w32, arith}
use Rattle.std.specs.Int.RustNames.{FitsSigned}
use Rattle.std.proofs.lemmas.Int.{ints, to_z-of_z}
use Rattle.argb_world.proofs.Places.{abs_is_positive_part}
use Rattle.argb_world.proofs.world.offset.Goals as goal

pub returns : goal.returns
returns c =
    let above : pos 0 ≤ℤ (c.args.x -ℤ c.args.low) = omega (arith, ints) in
    let x_fits : FitsSigned w32 c.args.x = c.ranges.x in
    let low_fits : FitsSigned w32 c.args.low = c.ranges.low in
    (simp to_z-of_z at c.abs_diff.ensures) ∙ abs_is_positive_part (c.args.x -ℤ c.args.low) above
