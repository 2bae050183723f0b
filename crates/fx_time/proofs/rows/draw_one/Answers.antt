use Rattle.std.proofs.Common.{rules, ◌≡◌, ap, ◌∙◌, w32}
use Rattle.std.specs.Int.RustNames.{FitsSigned}
use Rattle.std.proofs.lemmas.Int.{to_z-of_z}
use Rattle.geom_rect.specs.declared.rect.Rect.{Rect}
use Rattle.geom_rect.specs.Rect.{width_of}
use Rattle.argb_pixel.specs.Packed.{pixels_of}
use Rattle.fx_spatial.specs.Rows.{drawn_span}
use Rattle.fx_spatial.proofs.Drawn.{row_set}
use Rattle.fx_time.proofs.rows.draw_one.Goals as goal

pub returns-clause-drawn : goal.returns-clause-drawn
returns-clause-drawn g c =
    let y_fits : FitsSigned w32 c.args.y = c.ranges.y in
    let left_fits : FitsSigned w32 c.part-part.result.left = search rules in
    let drawing = g.R.DrawRow.drawing c.args.rule.now in
    let part = c.args.target.now.part in
    let row : pixels_of g.row.MAX c.draw_row.new.into ≡ drawn_span drawing c.part-part.result.left c.args.y c.width.result = simp to_z-of_z at c.draw_row.ensures.pixels in
    let set = simp to_z-of_z at c.set_packed_row.ensures.row in
    let whole : pixels_of g.row.MAX c.draw_row.new.into ≡ drawn_span drawing part.left c.args.y (width_of part) =
    row ∙ ap (drawn_span drawing c.part-part.result.left c.args.y) c.width.ensures.value
    ∙ ap (λ (r : Rect). drawn_span drawing r.left c.args.y (width_of r)) c.part-part.ensures.value in
    row_set drawing c.set_packed_row.new.self part c.args.y (pixels_of g.row.MAX c.draw_row.new.into) c.set_packed_row.ensures.frame.1 whole set

pub returns-clause-others : goal.returns-clause-others
returns-clause-others g c =
    let y_fits : FitsSigned w32 c.args.y = c.ranges.y in
    simp to_z-of_z at c.set_packed_row.ensures.others
