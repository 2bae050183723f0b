use Rattle.std.proofs.Common.{rules, ◌≡◌, w32, w64}
use Rattle.std.specs.Int.RustNames.{FitsSigned}
use Rattle.std.proofs.lemmas.Int.{to_z-of_z}
use Rattle.argb_pixel.specs.Packed.{pixels_of}
use Rattle.argb_world.specs.Picture.{span_of}
use Rattle.fx_time.proofs.Spans.{difference_row}
use Rattle.fx_time.proofs.difference.DifferenceDrawRowU8.draw_row.Goals as goal

pub returns-clause-pixels : goal.returns-clause-pixels
returns-clause-pixels g c =
    let s = c.args.self.now in
    let x_fits : FitsSigned w32 c.args.x = c.ranges.x in
    let y_fits : FitsSigned w32 c.args.y = c.ranges.y in
    let x_wide : FitsSigned w64 c.args.x = search rules in
    let y_wide : FitsSigned w64 c.args.y = search rules in
    let first : pixels_of g.row.MAX c.read_packed_span.new.into ≡ span_of s.first.now c.args.x c.args.y c.args.count = simp to_z-of_z at c.read_packed_span.ensures.pixels in
    let second : pixels_of g.row.MAX c.read_packed_span-2.new.into ≡ span_of s.second.now c.args.x c.args.y c.args.count = simp to_z-of_z at c.read_packed_span-2.ensures.pixels in
    difference_row s.first.now s.second.now c.args.x c.args.y c.args.count (pixels_of g.row.MAX c.read_packed_span.new.into) (pixels_of g.row.MAX c.read_packed_span-2.new.into)
    (pixels_of g.row.MAX c.take_difference.new.into) first second c.take_difference.ensures.pixels
