use Rattle.std.proofs.Common.{rules, ◌≡◌, ap, sym, subst, ◌∙◌, w32, length, arith}
use Rattle.std.specs.Int.RustNames.{FitsSigned}
use Rattle.std.proofs.lemmas.Int.{to_z-of_z}
use Rattle.geom_rect.specs.declared.rect.Rect.{Rect}
use Rattle.geom_rect.specs.Rect.{width_of}
use Rattle.fx_spatial.specs.Rows.{drawn_span, IsNearRow}
use Rattle.fx_spatial.proofs.Drawn.{near_row, row_set}
use Rattle.fx_spatial.proofs.rows.draw_one.Goals as goal

pub draw_row-requires : goal.draw_row-requires
draw_row-requires g c =
    let y_fits : FitsSigned w32 c.args.y = c.ranges.y in
    let left_fits : FitsSigned w32 c.part-part.result.left = search rules in
    let near : IsNearRow c.part-part.result.left c.args.y (length c.args.into.now) =
    subst (λ (r : Rect). IsNearRow r.left c.args.y (length c.args.into.now)) (sym c.part-part.ensures.value)
    (near_row c.args.target.now.part c.args.y (length c.args.into.now) c.requires.near c.requires.there c.requires.room) in
    (omega arith, (c.requires.depth, (simp to_z-of_z near, c.requires.more ∙ sym c.requires.room)))

pub returns-clause-drawn : goal.returns-clause-drawn
returns-clause-drawn g c =
    let y_fits : FitsSigned w32 c.args.y = c.ranges.y in
    let left_fits : FitsSigned w32 c.part-part.result.left = search rules in
    let row = simp to_z-of_z at c.draw_row.ensures in
    let set = simp to_z-of_z at c.set_row.ensures.row in
    let drawing = g.R.DrawRow.drawing c.args.rule.now in
    let whole : c.draw_row.new.into ≡ drawn_span drawing c.args.target.now.part.left c.args.y (width_of c.args.target.now.part) =
    row ∙ ap (λ (r : Rect). drawn_span drawing r.left c.args.y (length c.args.into.now)) c.part-part.ensures.value ∙ ap (drawn_span drawing c.args.target.now.part.left c.args.y) c.requires.room in
    row_set drawing c.set_row.new.self c.args.target.now.part c.args.y c.draw_row.new.into c.set_row.ensures.frame.1 whole set

pub returns-clause-others : goal.returns-clause-others
returns-clause-others g c =
    let y_fits : FitsSigned w32 c.args.y = c.ranges.y in
    simp to_z-of_z at c.set_row.ensures.others
