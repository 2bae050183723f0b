use Rattle.std.proofs.Common.{rules, ◌≡◌, pos, ◌+ℤ◌, ap, ◌∙◌, w32}
use Rattle.std.specs.Int.RustNames.{FitsSigned}
use Rattle.std.proofs.lemmas.Int.{to_z-of_z}
use Rattle.geom_rect.specs.declared.rect.Rect.{Rect}
use Rattle.geom_rect.specs.Rect.{width_of}
use Rattle.argb_world.specs.Picture.{span_of}
use Rattle.comp_stack.specs.Layers.{plane_of}
use Rattle.fx_analysis.specs.Sums.{line_of}
use Rattle.fx_analysis.proofs.lines.packed_line.Goals as goal

pub returns-clause-pixels : goal.returns-clause-pixels
returns-clause-pixels g c =
    let world = c.args.world.now in
    let top_fits : FitsSigned w32 c.extent-extent.result.top = search rules in
    let y_fits : FitsSigned w32 c.number_at.result = search rules in
    let placed = simp to_z-of_z at c.number_at.ensures in
    let y_is : c.number_at.result ≡ world.extent.top +ℤ pos c.args.k = placed ∙ ap (λ (r : Rect). r.top +ℤ pos c.args.k) c.extent-extent.ensures in
    let read = simp to_z-of_z at c.packed_row.ensures.pixels in
    read ∙ ap (λ (r : Rect). span_of world r.left c.number_at.result (width_of r)) c.requires.whole ∙ ap (line_of (plane_of world)) y_is
