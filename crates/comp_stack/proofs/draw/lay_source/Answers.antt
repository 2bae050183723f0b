use Rattle.std.proofs.Common.{sym, arith, w64}
use Rattle.std.specs.Int.RustNames.{FitsSigned}
use Rattle.std.proofs.lemmas.Int.{to_z-of_z}
use Rattle.argb_pixel.specs.Packed.{pixels_of}
use Rattle.argb_pixel.proofs.Parts.{pixels_length}
use Rattle.comp_stack.specs.Layers.{layer_of}
use Rattle.comp_stack.proofs.Laying.{row_laid}
use Rattle.comp_stack.proofs.draw.lay_source.Goals as goal

pub returns-in-Some-clause-laid : goal.returns-in-Some-clause-laid
returns-in-Some-clause-laid g c =
    let x_fits : FitsSigned w64 c.args.x = c.ranges.x in
    let y_fits : FitsSigned w64 c.args.y = c.ranges.y in
    let whole = simp to_z-of_z at c.in-Some.ensures.pixels in
    let many = pixels_length g.row.MAX c.args.count c.args.into.now c.requires.depth c.requires.long in
    λ k l.
    row_laid g.row.MAX (layer_of c.args.layer.now) c.args.x c.args.y (pixels_of g.row.MAX c.args.into.now) (pixels_of g.row.MAX c.in-Some.row.now) (pixels_of g.row.MAX c.lay_row.new.into) c.args.count (sym many) whole c.lay_row.ensures.value k (omega (arith, many, l))

pub returns-in-None-clause-laid : goal.returns-in-None-clause-laid
returns-in-None-clause-laid g c =
    let x_fits : FitsSigned w64 c.args.x = c.ranges.x in
    let y_fits : FitsSigned w64 c.args.y = c.ranges.y in
    let read = simp to_z-of_z at c.read_source.ensures.pixels in
    let many = pixels_length g.row.MAX c.args.count c.args.into.now c.requires.depth c.requires.long in
    λ k l.
    row_laid g.row.MAX (layer_of c.args.layer.now) c.args.x c.args.y (pixels_of g.row.MAX c.args.into.now) (pixels_of g.row.MAX c.read_source.new.source) (pixels_of g.row.MAX c.blend_packed.new.d) c.args.count (sym many) read c.blend_packed.ensures.value k (omega (arith, many, l))
