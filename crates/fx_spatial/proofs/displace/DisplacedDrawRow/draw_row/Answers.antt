use Rattle.std.proofs.Common.{ap, ◌∙◌, w32}
use Rattle.std.specs.Int.RustNames.{FitsSigned}
use Rattle.std.proofs.lemmas.Int.{to_z-of_z}
use Rattle.comp_stack.specs.Layers.{plane_of}
use Rattle.fx_spatial.specs.Rows.{drawn_span}
use Rattle.fx_spatial.specs.Displace.{displaced_at}
use Rattle.fx_spatial.proofs.displace.DisplacedDrawRow.draw_row.Goals as goal

pub returns : goal.returns
returns g c =
    let s = c.args.self.now in
    let x_fits : FitsSigned w32 c.args.x = c.ranges.x in
    let y_fits : FitsSigned w32 c.args.y = c.ranges.y in
    (simp to_z-of_z at c.displace_each.ensures)
    ∙ ap (drawn_span (displaced_at g.row.MAX s.max_x s.max_y (plane_of s.input.now) (plane_of s.map.now)) c.args.x c.args.y) c.read_span.auto.into
