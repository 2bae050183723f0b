use Rattle.std.proofs.Common.{length, sym, subst, ap, ◌∙◌, arith, w32}
use Rattle.std.specs.Int.RustNames.{FitsSigned}
use Rattle.std.proofs.lemmas.Int.{to_z-of_z}
use Rattle.std.proofs.Math.ListN.{length-set}
use Rattle.geom_rect.specs.Rect.{Has}
use Rattle.argb_world.specs.Picture.{Picture}
use Rattle.argb_world.proofs.Places.{place_lt}
use Rattle.argb_world.proofs.Rows.{set_at_point, set_beside}
use Rattle.argb_world.proofs.world.World.set.Goals as goal

pub set-requires : goal.set-requires
set-requires g c =
    let x_fits : FitsSigned w32 c.args.x = c.ranges.x in
    let y_fits : FitsSigned w32 c.args.y = c.ranges.y in
    let is = simp to_z-of_z at c.place-at.ensures in
    let inside : Has c.self.inside.part c.args.x c.args.y = subst (λ (v : Picture). Has v.part c.args.x c.args.y) (sym c.self.view_is) c.requires in
    omega (arith, place_lt c.self.inside.part c.args.x c.args.y inside, c.self.invariant.picture.filled)

pub returns-clause-set : goal.returns-clause-set
returns-clause-set g c =
    let x_fits : FitsSigned w32 c.args.x = c.ranges.x in
    let y_fits : FitsSigned w32 c.args.y = c.ranges.y in
    let is = simp to_z-of_z at c.place-at.ensures in
    let inside : Has c.self.inside.part c.args.x c.args.y = subst (λ (v : Picture). Has v.part c.args.x c.args.y) (sym c.self.view_is) c.requires in
    rw c.set.ensures.pixels (set_at_point c.self.inside.extent c.self.inside.part c.self.inside.pixels.pixels c.args.x c.args.y c.place-at.result c.args.p inside c.self.invariant.picture.filled is)

pub returns-clause-others : goal.returns-clause-others
returns-clause-others g c =
    let x_fits : FitsSigned w32 c.args.x = c.ranges.x in
    let y_fits : FitsSigned w32 c.args.y = c.ranges.y in
    let is = simp to_z-of_z at c.place-at.ensures in
    let inside : Has c.self.inside.part c.args.x c.args.y = subst (λ (v : Picture). Has v.part c.args.x c.args.y) (sym c.self.view_is) c.requires in
    rw (← c.self.view_is, c.set.ensures.pixels) (set_beside c.self.inside.extent c.self.inside.part c.self.inside.pixels.pixels c.args.x c.args.y c.place-at.result c.args.p inside is)

pub invariant_of-self : goal.invariant_of-self
invariant_of-self g c = record {
  depth = c.self.invariant.depth;
  picture = record {
    inside = c.self.invariant.picture.inside;
    bound = c.self.invariant.picture.bound;
    filled = ap length c.set.ensures.pixels ∙ length-set c.self.inside.pixels.pixels c.place-at.result c.args.p ∙ c.self.invariant.picture.filled;
  };
  wide = λ v h. c.set.ensures.width ∙ c.self.invariant.wide v h;
}
