use Rattle.std.proofs.Common.{rules, ◌≡◌, Bor, length, get_or, ap, sym, ◌∙◌, arith, w32, w64}
use Rattle.std.specs.Int.RustNames.{FitsSigned}
use Rattle.std.proofs.lemmas.Int.{to_z-of_z}
use Rattle.argb_pixel.specs.Packed.{pixels_of}
use Rattle.argb_world.specs.Picture.{Picture, span_of}
use Rattle.fx_time.proofs.Spans.{echo_row, echoed_row}
use Rattle.fx_time.proofs.echo.EchoedDrawRowU8.draw_row.Goals as goal

pub returns-clause-pixels : goal.returns-clause-pixels
returns-clause-pixels g c =
    let s = c.args.self.now in
    let x_fits : FitsSigned w32 c.args.x = c.ranges.x in
    let y_fits : FitsSigned w32 c.args.y = c.ranges.y in
    let x_wide : FitsSigned w64 c.args.x = search rules in
    let y_wide : FitsSigned w64 c.args.y = search rules in
    let world = c.index-self-0.result in
    let below : pixels_of g.row.MAX c.lay_echoes.new.into ≡ echo_row g.row.MAX s.worlds.now s.strengths.now c.args.x c.args.y c.args.count (length s.strengths.now) = simp to_z-of_z at c.lay_echoes.ensures.pixels in
    let read : pixels_of g.row.MAX c.read_packed_span.new.into ≡ span_of (get_or s.worlds.now 0 world).now c.args.x c.args.y c.args.count = simp to_z-of_z at c.read_packed_span.ensures.pixels in
    let above : pixels_of g.row.MAX c.read_packed_span.new.into ≡ span_of world.now c.args.x c.args.y c.args.count =
    read ∙ ap (λ (w : Bor Picture). span_of w.now c.args.x c.args.y c.args.count) (sym c.index-self-0.is) in
    echoed_row g.row.MAX s.worlds.now s.strengths.now c.args.x c.args.y c.args.count world (pixels_of g.row.MAX c.read_packed_span.new.into)
    (pixels_of g.row.MAX c.lay_echoes.new.into) (pixels_of g.row.MAX c.blend_packed.new.d) (omega (arith, s.one_each)) c.index-self-0.is above below c.blend_packed.ensures.value
