use Rattle.std.proofs.Common.{◌-ℤ◌, refl, w32, rules, arith}
use Rattle.std.specs.Int.RustNames.{FitsSigned}
use Rattle.std.proofs.lemmas.Int.{to_z-of_z}
use Rattle.geom_rect.specs.Rect.{positive_part}
use Rattle.argb_world.proofs.Places.{place_bound}
use Rattle.argb_world.proofs.world.place.Goals as goal

pub overflow_mul-result : goal.overflow_mul-result
overflow_mul-result c =
    let y_fits : FitsSigned w32 c.args.y = c.ranges.y in
    let top_fits : FitsSigned w32 c.args.part.now.top = search rules in
    let row_is = simp to_z-of_z at c.offset.ensures in
    omega (arith, place_bound c.args.part.now c.args.x c.args.y c.offset.result c.width.result (positive_part (c.args.x -ℤ c.args.part.now.left)) c.requires.height c.requires.column c.requires.bound row_is c.width.ensures refl)

pub overflow_add-result : goal.overflow_add-result
overflow_add-result c =
    let y_fits : FitsSigned w32 c.args.y = c.ranges.y in
    let top_fits : FitsSigned w32 c.args.part.now.top = search rules in
    let row_is = simp to_z-of_z at c.offset.ensures in
    let x_fits : FitsSigned w32 c.args.x = c.ranges.x in
    let left_fits : FitsSigned w32 c.args.part.now.left = search rules in
    let column_is = simp to_z-of_z at c.offset-2.ensures in
    omega (arith, place_bound c.args.part.now c.args.x c.args.y c.offset.result c.width.result c.offset-2.result c.requires.height c.requires.column c.requires.bound row_is c.width.ensures column_is)
