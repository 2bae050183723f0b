use Rattle.std.proofs.Common.{◌≡◌, w64, length}
use Rattle.std.specs.Int.RustNames.{FitsSigned}
use Rattle.std.proofs.lemmas.Int.{to_z-of_z}
use Rattle.argb_pixel.specs.Packed.{pixels_of}
use Rattle.argb_world.specs.Picture.{at, span_of}
use Rattle.fx_blur.proofs.Moving.{row_read, leaving_holds, left}
use Rattle.fx_blur.proofs.columns.leave_row.Goals as goal

pub take_row-requires-clause-parts : goal.take_row-requires-clause-parts
take_row-requires-clause-parts g c =
    let x_fits : FitsSigned w64 c.args.x = c.ranges.x in
    let y_fits : FitsSigned w64 c.args.y = c.ranges.y in
    let read : pixels_of g.row.MAX c.read_packed_span.new.into ≡ span_of c.args.from.now c.args.x c.args.y (length c.args.columns.now) = simp to_z-of_z at c.read_packed_span.ensures.pixels in
    let row = row_read g.row.MAX c.args.from.now c.args.x c.args.y (length c.args.columns.now) (pixels_of g.row.MAX c.read_packed_span.new.into) read c.read_packed_span.ensures.packed.premultiplied in
    leaving_holds g.row.MAX (at c.args.from.now) c.args.x c.args.y c.args.rows c.args.columns.now (pixels_of g.row.MAX c.read_packed_span.new.into) c.args.columns.now c.requires.sums row

pub returns : goal.returns
returns g c =
    let x_fits : FitsSigned w64 c.args.x = c.ranges.x in
    let y_fits : FitsSigned w64 c.args.y = c.ranges.y in
    let read : pixels_of g.row.MAX c.read_packed_span.new.into ≡ span_of c.args.from.now c.args.x c.args.y (length c.args.columns.now) = simp to_z-of_z at c.read_packed_span.ensures.pixels in
    let row = row_read g.row.MAX c.args.from.now c.args.x c.args.y (length c.args.columns.now) (pixels_of g.row.MAX c.read_packed_span.new.into) read c.read_packed_span.ensures.packed.premultiplied in
    left g.row.MAX (at c.args.from.now) c.args.x c.args.y c.args.rows c.args.columns.now (pixels_of g.row.MAX c.read_packed_span.new.into) c.take_row.new.columns
    c.take_row.auto.columns c.requires.sums row c.take_row.ensures
