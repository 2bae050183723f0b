use Rattle.std.proofs.Common.{arith, w64}
use Rattle.std.specs.Int.RustNames.{FitsSigned}
use Rattle.std.proofs.lemmas.Int.{to_z-of_z}
use Rattle.argb_pixel.specs.Packed.{pixels_of}
use Rattle.argb_pixel.proofs.Parts.{pixels_length}
use Rattle.comp_stack.specs.Layers.{layer_of}
use Rattle.comp_stack.proofs.Laying.{colour_laid}
use Rattle.comp_stack.proofs.draw.lay_span.Goals as goal

pub returns-in-Some-clause-laid : goal.returns-in-Some-clause-laid
returns-in-Some-clause-laid g c =
    let x_fits : FitsSigned w64 c.args.x = c.ranges.x in
    let y_fits : FitsSigned w64 c.args.y = c.ranges.y in
    let same = simp to_z-of_z at c.in-Some.ensures in
    let many = pixels_length g.row.MAX c.args.count c.args.into.now c.requires.depth c.requires.long in
    λ k l.
    colour_laid g.row.MAX (layer_of c.args.layer.now) c.args.x c.args.y c.in-Some.pixel (pixels_of g.row.MAX c.args.into.now) (pixels_of g.row.MAX c.blend_packed_colour.new.d) (λ j b. same j (omega (arith, many, b))) c.blend_packed_colour.ensures.value k (omega (arith, many, l))

pub returns-in-None-clause-laid : goal.returns-in-None-clause-laid
returns-in-None-clause-laid g c =
    let x_fits : FitsSigned w64 c.args.x = c.ranges.x in
    let y_fits : FitsSigned w64 c.args.y = c.ranges.y in
    simp to_z-of_z at c.lay_source.ensures.laid
