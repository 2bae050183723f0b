use Rattle.std.proofs.Common.{length, sym, subst, ap, ◌∙◌, List, arith, w32}
use Rattle.std.specs.Int.RustNames.{FitsSigned}
use Rattle.std.proofs.lemmas.Int.{to_z-of_z}
use Rattle.argb_pixel.specs.Pixel.{Argb}
use Rattle.argb_world.specs.Picture.{Picture, HasSpan, StaysOffSpan, span_of}
use Rattle.argb_pixel.specs.Packed.{pixels_of}
use Rattle.argb_pixel.proofs.Parts.{pixels_length}
use Rattle.argb_world.proofs.Rows.{picture}
use Rattle.argb_world.proofs.Spans.{span_within, span_write}
use Rattle.argb_world.proofs.world.World.set_packed_span.Goals as goal

pub write_packed-requires : goal.write_packed-requires
write_packed-requires g c =
    let x_fits : FitsSigned w32 c.args.x = c.ranges.x in
    let y_fits : FitsSigned w32 c.args.y = c.ranges.y in
    let is = simp to_z-of_z at c.place-start.ensures in
    let span : HasSpan c.self.inside.part c.args.x c.args.y c.args.count = subst (λ (v : Picture). HasSpan v.part c.args.x c.args.y c.args.count) (sym c.self.view_is) c.requires.there in
    let long = pixels_length g.row.MAX c.args.count c.args.from.now c.self.invariant.depth c.requires.long in
    (omega arith, (omega (arith, span_within c.self.inside.part c.args.x c.args.y c.args.count span, is, c.self.invariant.picture.filled), (c.requires.long, c.requires.packed)))

pub invariant_of-self : goal.invariant_of-self
invariant_of-self g c =
    let x_fits : FitsSigned w32 c.args.x = c.ranges.x in
    let y_fits : FitsSigned w32 c.args.y = c.ranges.y in
    let is = simp to_z-of_z at c.place-start.ensures in
    let span : HasSpan c.self.inside.part c.args.x c.args.y c.args.count = subst (λ (v : Picture). HasSpan v.part c.args.x c.args.y c.args.count) (sym c.self.view_is) c.requires.there in
    let long = pixels_length g.row.MAX c.args.count c.args.from.now c.self.invariant.depth c.requires.long in
    record {
      depth = c.self.invariant.depth;
      picture = record {
        inside = c.self.invariant.picture.inside;
        bound = c.self.invariant.picture.bound;
        filled = ap length c.write_packed.ensures.pixels ∙ (span_write c.self.inside.extent c.self.inside.part c.self.inside.pixels.pixels (pixels_of g.row.MAX c.args.from.now) c.args.x c.args.y c.place-start.result c.args.count long span c.self.invariant.picture.filled is).0;
      };
      wide = λ v h. c.write_packed.ensures.width ∙ c.self.invariant.wide v h;
    }

pub returns-clause-span : goal.returns-clause-span
returns-clause-span g c =
    let x_fits : FitsSigned w32 c.args.x = c.ranges.x in
    let y_fits : FitsSigned w32 c.args.y = c.ranges.y in
    let is = simp to_z-of_z at c.place-start.ensures in
    let span : HasSpan c.self.inside.part c.args.x c.args.y c.args.count = subst (λ (v : Picture). HasSpan v.part c.args.x c.args.y c.args.count) (sym c.self.view_is) c.requires.there in
    let long = pixels_length g.row.MAX c.args.count c.args.from.now c.self.invariant.depth c.requires.long in
    ap (λ (l : List Argb). span_of (picture c.self.inside.extent c.self.inside.part l) c.args.x c.args.y c.args.count) c.write_packed.ensures.pixels
    ∙ (span_write c.self.inside.extent c.self.inside.part c.self.inside.pixels.pixels (pixels_of g.row.MAX c.args.from.now) c.args.x c.args.y c.place-start.result c.args.count long span c.self.invariant.picture.filled is).1

pub returns-clause-others : goal.returns-clause-others
returns-clause-others g c =
    let x_fits : FitsSigned w32 c.args.x = c.ranges.x in
    let y_fits : FitsSigned w32 c.args.y = c.ranges.y in
    let is = simp to_z-of_z at c.place-start.ensures in
    let span : HasSpan c.self.inside.part c.args.x c.args.y c.args.count = subst (λ (v : Picture). HasSpan v.part c.args.x c.args.y c.args.count) (sym c.self.view_is) c.requires.there in
    let long = pixels_length g.row.MAX c.args.count c.args.from.now c.self.invariant.depth c.requires.long in
    rw (← c.self.view_is) (
    subst (λ (l : List Argb). StaysOffSpan c.args.x c.args.y c.args.count (picture c.self.inside.extent c.self.inside.part c.self.inside.pixels.pixels) (picture c.self.inside.extent c.self.inside.part l)) (sym c.write_packed.ensures.pixels)
    (span_write c.self.inside.extent c.self.inside.part c.self.inside.pixels.pixels (pixels_of g.row.MAX c.args.from.now) c.args.x c.args.y c.place-start.result c.args.count long span c.self.invariant.picture.filled is).2
    )
