use Rattle.std.proofs.Common.{rules, ◌≡◌, ap, ap₂, ◌∙◌, map, length, ℤ, w32, w64, ◌-ℤ◌}
use Rattle.std.specs.Int.RustNames.{FitsSigned}
use Rattle.std.proofs.lemmas.Int.{to_z-of_z}
use Rattle.argb_world.specs.Picture.{span_of}
use Rattle.fx_spatial.specs.Shadow.{shadow_of}
use Rattle.fx_spatial.proofs.Drawn.{shadow_row}
use Rattle.fx_spatial.proofs.shadow.ShadowedDrawRow.draw_row.Goals as goal

pub returns : goal.returns
returns g c =
    let s = c.args.self.now in
    let cast = shadow_of s.cast.opacity s.cast.red s.cast.green s.cast.blue in
    let n = length c.args.into.now in
    let x_fits : FitsSigned w32 c.args.x = c.ranges.x in
    let y_fits : FitsSigned w32 c.args.y = c.ranges.y in
    let x_wide : FitsSigned w64 c.args.x = search rules in
    let y_wide : FitsSigned w64 c.args.y = search rules in
    let dx_fits : FitsSigned w32 s.dx = search rules in
    let dy_fits : FitsSigned w32 s.dy = search rules in
    let left_fits : FitsSigned w64 c.less.result = search rules in
    let up_fits : FitsSigned w64 c.less-2.result = search rules in
    let left : c.less.result ≡ c.args.x -ℤ s.dx = simp to_z-of_z at c.less.ensures in
    let up : c.less-2.result ≡ c.args.y -ℤ s.dy = simp to_z-of_z at c.less-2.ensures in
    let read : c.read_span.new.into ≡ span_of s.input.now c.less.result c.less-2.result n = simp to_z-of_z at c.read_span.ensures in
    let below : c.read_span.new.into ≡ span_of s.input.now (c.args.x -ℤ s.dx) (c.args.y -ℤ s.dy) n = read ∙ ap₂ (λ (u v : ℤ). span_of s.input.now u v n) left up in
    let above : c.read_span-2.new.into ≡ span_of s.input.now c.args.x c.args.y (length c.args.spare.now) = simp to_z-of_z at c.read_span-2.ensures in
    shadow_row g.row.MAX s.input.now s.dx s.dy c.args.x c.args.y n cast c.recolor_each.new.row c.read_span-2.new.into c.blend_row.new.d
    (c.recolor_each.ensures ∙ ap (map cast) below) (above ∙ ap (span_of s.input.now c.args.x c.args.y) c.requires.room) c.blend_row.ensures
