use Rattle.std.proofs.Common.{sym, ◌∙◌, arith, w64}
use Rattle.std.specs.Int.RustNames.{FitsSigned}
use Rattle.std.proofs.lemmas.Int.{to_z-of_z}
use Rattle.argb_pixel.specs.Packed.{pixels_of}
use Rattle.argb_pixel.proofs.Parts.{pixels_length}
use Rattle.comp_stack.specs.Layers.{layer_of}
use Rattle.comp_stack.proofs.Laying.{laid}
use Rattle.comp_stack.proofs.draw.lay.Goals as goal

pub returns-then-is_stencil-clause-laid : goal.returns-then-is_stencil-clause-laid
returns-then-is_stencil-clause-laid g c =
    let x_fits : FitsSigned w64 c.args.x = c.ranges.x in
    let y_fits : FitsSigned w64 c.args.y = c.ranges.y in
    simp to_z-of_z at c.lay_span.ensures.laid

pub returns-clause-laid : goal.returns-clause-laid
returns-clause-laid g c =
    let x_fits : FitsSigned w64 c.args.x = c.ranges.x in
    let y_fits : FitsSigned w64 c.args.y = c.ranges.y in
    let beyond = simp to_z-of_z at c.seen-start.ensures.beyond in
    let inside = simp to_z-of_z at c.lay_middle.ensures.inside in
    let many = pixels_length g.row.MAX c.args.count c.args.into.now c.requires.depth c.requires.long in
    λ k l.
    laid g.row.MAX (layer_of c.args.layer.now) c.args.x c.args.y (pixels_of g.row.MAX c.args.into.now) (pixels_of g.row.MAX c.lay_middle.new.into) c.seen-start.result.0 c.seen-start.result.1 c.requires.depth (sym c.is_stencil.ensures ∙ c.if-is_stencil.false)
    (λ j b. beyond j (omega (arith, many, b))) (λ j b. inside j (omega (arith, many, b))) (λ j b. c.lay_middle.ensures.outside j (omega (arith, many, b))) k (omega (arith, many, l))
