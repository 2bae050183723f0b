use Rattle.std.proofs.Common.{rules, ◌≡◌, ap, ◌∙◌, w32, w64, length}
use Rattle.std.specs.Int.RustNames.{FitsSigned}
use Rattle.std.proofs.lemmas.Int.{to_z-of_z}
use Rattle.geom_rect.specs.declared.rect.Rect.{Rect}
use Rattle.geom_rect.specs.Rect.{width_of}
use Rattle.argb_world.specs.Picture.{span_of}
use Rattle.fx_color.proofs.RowsDrawn.{row_changed}
use Rattle.fx_color.proofs.rows.recolor_row.Goals as goal

pub returns-clause-drawn : goal.returns-clause-drawn
returns-clause-drawn g c =
    let y_fits : FitsSigned w32 c.args.y = c.ranges.y in
    let y_wide : FitsSigned w64 c.args.y = search rules in
    let left_fits : FitsSigned w32 c.part-part.result.left = search rules in
    let left_wide : FitsSigned w64 c.part-part.result.left = search rules in
    let read = simp to_z-of_z at c.read_span.ensures in
    let set = simp to_z-of_z at c.set_row.ensures.row in
    let part_is = c.part-part.ensures.value in
    let long = c.read_span.auto.into ∙ c.requires.room in
    let whole : c.read_span.new.into ≡ span_of c.args.from.now c.args.target.now.part.left c.args.y (width_of c.args.target.now.part) =
    read ∙ ap (λ (r : Rect). span_of c.args.from.now r.left c.args.y (length c.args.into.now)) part_is ∙ ap (span_of c.args.from.now c.args.target.now.part.left c.args.y) c.requires.room in
    row_changed (g.R.Recolor.recolored c.args.rule.now) c.args.from.now c.set_row.new.self c.args.target.now.part c.args.y c.read_span.new.into c.recolor_each.new.row
    c.set_row.ensures.frame.1 whole c.recolor_each.ensures long set
