use Rattle.std.proofs.Common.{get_or, ap, sym, ◌∙◌, arith, w32}
use Rattle.std.specs.Int.RustNames.{FitsSigned}
use Rattle.std.proofs.lemmas.Int.{to_z-of_z}
use Rattle.argb_pixel.specs.Pixel.{clear}
use Rattle.argb_world.proofs.Places.{place_lt}
use Rattle.argb_world.proofs.Rows.{at_inside, at_outside, has-false}
use Rattle.argb_world.proofs.world.World.at.Goals as goal

pub get-requires : goal.get-requires
get-requires g c =
    let x_fits : FitsSigned w32 c.args.x = c.ranges.x in
    let y_fits : FitsSigned w32 c.args.y = c.ranges.y in
    let has = simp to_z-of_z at c.has.ensures in
    let is = simp to_z-of_z at c.place.ensures in
    omega (arith, place_lt c.self.inside.part c.args.x c.args.y (has.0 c.if-has.true), c.self.invariant.picture.filled)

pub returns-then-has : goal.returns-then-has
returns-then-has g c =
    let x_fits : FitsSigned w32 c.args.x = c.ranges.x in
    let y_fits : FitsSigned w32 c.args.y = c.ranges.y in
    let has = simp to_z-of_z at c.has.ensures in
    let is = simp to_z-of_z at c.place.ensures in
    rw (← c.self.view_is) (
    c.get.ensures ∙ ap (λ j. get_or c.self.inside.pixels.pixels j clear) is
    ∙ sym (at_inside c.self.inside.extent c.self.inside.part c.self.inside.pixels.pixels c.args.x c.args.y (has.0 c.if-has.true))
    )

pub returns-else-has : goal.returns-else-has
returns-else-has g c =
    let x_fits : FitsSigned w32 c.args.x = c.ranges.x in
    let y_fits : FitsSigned w32 c.args.y = c.ranges.y in
    let has = simp to_z-of_z at c.has.ensures in
    rw (← c.self.view_is) (c.CLEAR.ensures ∙ sym (at_outside c.self.inside.extent c.self.inside.part c.self.inside.pixels.pixels c.args.x c.args.y (has-false c.has.result _ _ _ has.1 c.if-has.false)))
