use Rattle.std.proofs.Common.{rules, w32, ◌≡◌, ◌^◌, length, take, ap, subst, sym, ◌∙◌, arith, length-take}
use Rattle.std.proofs.lemmas.List.{take_all}
use Rattle.std.proofs.lemmas.List.Elements.{All-take}
use Rattle.std.specs.Int.RustNames.{FitsSigned}
use Rattle.std.proofs.lemmas.Int.{to_z-of_z}
use Rattle.argb_world.specs.Picture.{row_of}
use Rattle.argb_pixel.specs.Pixel.{IsPremultiplied}
use Rattle.argb_pixel.specs.Packed.{pixels_of}
use Rattle.frame_span.specs.Sums.{AreAtMost, sums_of}
use Rattle.frame_span.proofs.Pixels.{few_sums, long_row}
use Rattle.frame_span.proofs.sums.row_sums.Goals as goal

pub with-sums-requires-clause-few : goal.with-sums-requires-clause-few
with-sums-requires-clause-few g c =
    let pixels = pixels_of g.row.MAX c.packed_row-row.result.now in
    let fits : FitsSigned w32 c.args.y = search rules in
    let read : pixels ≡ row_of c.args.world.now c.args.y = simp to_z-of_z at c.packed_row-row.ensures.pixels in
    let long : length pixels ≡ c.args.width = ap length read ∙ long_row c.args.world.now c.args.y ∙ c.requires.width in
    subst (AreAtMost (2 ^ 62)) (sym c.pixels.invariant)
    (few_sums g.row.MAX (2 ^ 32) (take c.pixels.x pixels) c.requires.depth (All-take (IsPremultiplied g.row.MAX) c.pixels.x pixels c.packed_row-row.ensures.packed.premultiplied)
    (omega (arith, length-take c.pixels.x pixels, long, c.ranges.width.fits)) (omega arith))

pub returns : goal.returns
returns g c =
    let pixels = pixels_of g.row.MAX c.packed_row-row.result.now in
    let fits : FitsSigned w32 c.args.y = search rules in
    let read : pixels ≡ row_of c.args.world.now c.args.y = simp to_z-of_z at c.packed_row-row.ensures.pixels in
    let long : length pixels ≡ c.args.width = ap length read ∙ long_row c.args.world.now c.args.y ∙ c.requires.width in
    c.pixels.invariant ∙ ap sums_of (take_all c.pixels.x pixels (omega (arith, long, c.pixels-test.false)) ∙ read)
