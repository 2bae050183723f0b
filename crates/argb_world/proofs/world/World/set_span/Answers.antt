use Rattle.std.proofs.Common.{length, sym, subst, ap, ◌∙◌, List, arith, w32}
use Rattle.std.specs.Int.RustNames.{FitsSigned}
use Rattle.std.proofs.lemmas.Int.{to_z-of_z}
use Rattle.argb_pixel.specs.Pixel.{Argb}
use Rattle.argb_world.specs.Picture.{Picture, HasSpan, StaysOffSpan, span_of}
use Rattle.argb_world.proofs.Rows.{picture}
use Rattle.argb_world.proofs.Spans.{span_within, set_span_is, set_span_beside, filled_still}
use Rattle.argb_world.proofs.world.World.set_span.Goals as goal

pub write-requires : goal.write-requires
write-requires g c =
    let x_fits : FitsSigned w32 c.args.x = c.ranges.x in
    let y_fits : FitsSigned w32 c.args.y = c.ranges.y in
    let is = simp to_z-of_z at c.place-start.ensures in
    let span : HasSpan c.self.inside.part c.args.x c.args.y (length c.args.from.now) = subst (λ (v : Picture). HasSpan v.part c.args.x c.args.y (length c.args.from.now)) (sym c.self.view_is) c.requires in
    omega (arith, span_within c.self.inside.part c.args.x c.args.y (length c.args.from.now) span, c.self.invariant.picture.filled)

pub invariant_of-self : goal.invariant_of-self
invariant_of-self g c =
    let x_fits : FitsSigned w32 c.args.x = c.ranges.x in
    let y_fits : FitsSigned w32 c.args.y = c.ranges.y in
    let is = simp to_z-of_z at c.place-start.ensures in
    let span : HasSpan c.self.inside.part c.args.x c.args.y (length c.args.from.now) = subst (λ (v : Picture). HasSpan v.part c.args.x c.args.y (length c.args.from.now)) (sym c.self.view_is) c.requires in
    record {
      depth = c.self.invariant.depth;
      picture = record {
        inside = c.self.invariant.picture.inside;
        bound = c.self.invariant.picture.bound;
        filled = ap length c.write.ensures.pixels ∙ filled_still c.self.inside.part c.self.inside.pixels.pixels c.args.from.now c.args.x c.args.y c.place-start.result span c.self.invariant.picture.filled is;
      };
      wide = λ v h. c.write.ensures.width ∙ c.self.invariant.wide v h;
    }

pub returns-clause-span : goal.returns-clause-span
returns-clause-span g c =
    let x_fits : FitsSigned w32 c.args.x = c.ranges.x in
    let y_fits : FitsSigned w32 c.args.y = c.ranges.y in
    let is = simp to_z-of_z at c.place-start.ensures in
    let span : HasSpan c.self.inside.part c.args.x c.args.y (length c.args.from.now) = subst (λ (v : Picture). HasSpan v.part c.args.x c.args.y (length c.args.from.now)) (sym c.self.view_is) c.requires in
    ap (λ (l : List Argb). span_of (picture c.self.inside.extent c.self.inside.part l) c.args.x c.args.y (length c.args.from.now)) c.write.ensures.pixels
    ∙ set_span_is c.self.inside.extent c.self.inside.part c.self.inside.pixels.pixels c.args.from.now c.args.x c.args.y c.place-start.result span c.self.invariant.picture.filled is

pub returns-clause-others : goal.returns-clause-others
returns-clause-others g c =
    let x_fits : FitsSigned w32 c.args.x = c.ranges.x in
    let y_fits : FitsSigned w32 c.args.y = c.ranges.y in
    let is = simp to_z-of_z at c.place-start.ensures in
    let span : HasSpan c.self.inside.part c.args.x c.args.y (length c.args.from.now) = subst (λ (v : Picture). HasSpan v.part c.args.x c.args.y (length c.args.from.now)) (sym c.self.view_is) c.requires in
    rw (← c.self.view_is) (
    subst (λ (l : List Argb). StaysOffSpan c.args.x c.args.y (length c.args.from.now) (picture c.self.inside.extent c.self.inside.part c.self.inside.pixels.pixels) (picture c.self.inside.extent c.self.inside.part l)) (sym c.write.ensures.pixels)
    (set_span_beside c.self.inside.extent c.self.inside.part c.self.inside.pixels.pixels c.args.from.now c.args.x c.args.y c.place-start.result span c.self.invariant.picture.filled is)
    )
