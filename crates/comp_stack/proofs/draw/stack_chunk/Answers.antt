use Rattle.std.proofs.Common.{w32}
use Rattle.std.specs.Int.RustNames.{FitsSigned}
use Rattle.std.proofs.lemmas.Int.{to_z-of_z}
use Rattle.comp_stack.proofs.draw.stack_chunk.Goals as goal

pub returns-clause-stacked : goal.returns-clause-stacked
returns-clause-stacked g c =
    let x_fits : FitsSigned w32 c.args.x = c.ranges.x in
    let y_fits : FitsSigned w32 c.args.y = c.ranges.y in
    simp to_z-of_z at c.stack_span.ensures.stacked

pub returns-clause-others : goal.returns-clause-others
returns-clause-others g c =
    let x_fits : FitsSigned w32 c.args.x = c.ranges.x in
    let y_fits : FitsSigned w32 c.args.y = c.ranges.y in
    simp to_z-of_z at c.stack_span.ensures.others
