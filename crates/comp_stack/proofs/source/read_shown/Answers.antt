use Rattle.std.proofs.Common.{rules, ◌∙◌, w32, w64}
use Rattle.std.specs.Int.RustNames.{FitsSigned}
use Rattle.std.proofs.lemmas.Int.{to_z-of_z}
use Rattle.comp_stack.proofs.Sources.{span_is_pixels}
use Rattle.comp_stack.proofs.source.read_shown.Goals as goal

pub returns-clause-pixels : goal.returns-clause-pixels
returns-clause-pixels g c =
    let x_fits : FitsSigned w64 c.args.x = c.ranges.x in
    let y_fits : FitsSigned w64 c.args.y = c.ranges.y in
    let px_fits : FitsSigned w32 c.args.shown.now.x = search rules in
    let py_fits : FitsSigned w32 c.args.shown.now.y = search rules in
    let cx_fits : FitsSigned w64 c.within.result = search rules in
    let cy_fits : FitsSigned w64 c.within-2.result = search rules in
    let column = simp to_z-of_z at c.within.ensures in
    let row = simp to_z-of_z at c.within-2.ensures in
    let read = simp to_z-of_z at c.read_packed_span.ensures.pixels in
    read ∙ span_is_pixels c.args.shown.now.world c.args.x c.args.y c.args.shown.now.x c.args.shown.now.y c.within.result c.within-2.result c.args.count column row
