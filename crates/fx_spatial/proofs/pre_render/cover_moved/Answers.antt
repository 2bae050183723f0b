use Rattle.std.proofs.Common.{◌≡◌, ap, ◌∙◌, w32}
use Rattle.std.specs.Int.RustNames.{FitsSigned}
use Rattle.std.proofs.lemmas.Int.{to_z-of_z}
use Rattle.geom_rect.specs.Rect.{cover_of, shift_of}
use Rattle.fx_spatial.proofs.pre_render.cover_moved.Goals as goal

pub returns : goal.returns
returns c =
    let dx_fits : FitsSigned w32 c.args.dx = c.ranges.dx in
    let dy_fits : FitsSigned w32 c.args.dy = c.ranges.dy in
    let moved : c.shift.result ≡ shift_of c.args.rect c.args.dx c.args.dy = simp to_z-of_z at c.shift.ensures.value in
    c.cover.ensures.value ∙ ap (cover_of c.args.rect) moved
