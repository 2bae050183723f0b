use Rattle.std.proofs.Common.{pos, ◌+ℤ◌, ◌-ℤ◌, refl, rules, w32, w64, arith}
use Rattle.std.specs.Int.RustNames.{FitsSigned}
use Rattle.std.proofs.lemmas.Int.{to_z-of_z}
use Rattle.geom_rect.specs.Rect.{positive_part}
use Rattle.argb_world.proofs.Places.{place_bound, along_within}
use Rattle.argb_world.proofs.world.place_along.Goals as goal

pub overflow_mul-result : goal.overflow_mul-result
overflow_mul-result c =
    let y_fits : FitsSigned w64 c.args.y = c.ranges.y in
    let top_fits : FitsSigned w32 c.args.part.now.top = search rules in
    let left_fits : FitsSigned w32 c.args.part.now.left = search rules in
    let row_is = simp to_z-of_z at c.above.ensures in
    let there = c.requires.there in
    omega (arith, place_bound c.args.part.now (c.args.x +ℤ pos c.args.k) c.args.y c.above.result c.width.result (positive_part ((c.args.x +ℤ pos c.args.k) -ℤ c.args.part.now.left)) (there.2, there.3) (along_within c.args.part.now (c.args.x +ℤ pos c.args.k) c.args.y there) c.requires.bound row_is c.width.ensures refl)

pub overflow_add-result : goal.overflow_add-result
overflow_add-result c =
    let y_fits : FitsSigned w64 c.args.y = c.ranges.y in
    let x_fits : FitsSigned w64 c.args.x = c.ranges.x in
    let top_fits : FitsSigned w32 c.args.part.now.top = search rules in
    let left_fits : FitsSigned w32 c.args.part.now.left = search rules in
    let row_is = simp to_z-of_z at c.above.ensures in
    let column_is = simp to_z-of_z at c.column.ensures in
    let there = c.requires.there in
    omega (arith, place_bound c.args.part.now (c.args.x +ℤ pos c.args.k) c.args.y c.above.result c.width.result c.column.result (there.2, there.3) (along_within c.args.part.now (c.args.x +ℤ pos c.args.k) c.args.y there) c.requires.bound row_is c.width.ensures column_is)
