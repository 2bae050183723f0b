use Rattle.std.proofs.Common.{rules, ◌≡◌, List, subst, ◌∙◌, w32, w64}
use Rattle.std.specs.Prelude.{IfSome}
use Rattle.std.specs.Int.RustNames.{FitsSigned}
use Rattle.std.proofs.lemmas.Int.{to_z-of_z}
use Rattle.argb_pixel.specs.Pixel.{Argb}
use Rattle.argb_pixel.specs.Packed.{pixels_of}
use Rattle.comp_stack.specs.Layers.{layer_of}
use Rattle.comp_stack.proofs.Sources.{span_is_pixels, whole_span_is}
use Rattle.comp_stack.proofs.source.whole_source.Goals as goal

pub returns-in-None-clause-pixels : goal.returns-in-None-clause-pixels
returns-in-None-clause-pixels g c =
    let x_fits : FitsSigned w64 c.args.x = c.ranges.x in
    let y_fits : FitsSigned w64 c.args.y = c.ranges.y in
    let shown = c.args.layer.now.layer in
    let px_fits : FitsSigned w32 shown.x = search rules in
    let py_fits : FitsSigned w32 shown.y = search rules in
    let cx_fits : FitsSigned w64 c.within.result = search rules in
    let cy_fits : FitsSigned w64 c.within-in-None.result = search rules in
    let column = simp to_z-of_z at c.within.ensures in
    let row = simp to_z-of_z at c.within-in-None.ensures in
    let lent = simp to_z-of_z at c.packed_span.ensures.pixels in
    subst (λ (ps : List Argb). IfSome c.packed_span.result (λ r. pixels_of g.row.MAX r.now ≡ ps))
    (span_is_pixels shown.world c.args.x c.args.y shown.x shown.y c.within.result c.within-in-None.result c.args.count column row
    ∙ whole_span_is g.row.MAX (layer_of c.args.layer.now) c.args.x c.args.y c.args.count c.requires.depth c.in-None.is c.if-shown-eq10000.true) lent
