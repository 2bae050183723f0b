use Rattle.std.proofs.Common.{◌≡◌, pos, ◌+ℤ◌, w64, ap, ◌∙◌, rules, length}
use Rattle.std.specs.Int.RustNames.{FitsSigned}
use Rattle.std.proofs.lemmas.Int.{to_z-of_z}
use Rattle.argb_pixel.specs.Packed.{pixels_of}
use Rattle.argb_world.specs.Picture.{at, span_of}
use Rattle.fx_blur.proofs.Moving.{row_read, entering_fits, entered}
use Rattle.fx_blur.proofs.columns.enter_row.Goals as goal

pub add_row-requires-clause-fits : goal.add_row-requires-clause-fits
add_row-requires-clause-fits g c =
    let x_fits : FitsSigned w64 c.args.x = c.ranges.x in
    let y_fits : FitsSigned w64 c.args.y = c.ranges.y in
    let below_fits : FitsSigned w64 c.number_above.result = search rules in
    let below : c.number_above.result ≡ c.args.y +ℤ pos c.args.rows = simp to_z-of_z at c.number_above.ensures in
    let read : pixels_of g.row.MAX c.read_packed_span.new.into ≡ span_of c.args.from.now c.args.x c.number_above.result (length c.args.columns.now) = simp to_z-of_z at c.read_packed_span.ensures.pixels in
    let row = row_read g.row.MAX c.args.from.now c.args.x (c.args.y +ℤ pos c.args.rows) (length c.args.columns.now) (pixels_of g.row.MAX c.read_packed_span.new.into)
    (read ∙ ap (λ y. span_of c.args.from.now c.args.x y (length c.args.columns.now)) below) c.read_packed_span.ensures.packed.premultiplied in
    entering_fits g.row.MAX (at c.args.from.now) c.args.x c.args.y c.args.rows c.args.columns.now (pixels_of g.row.MAX c.read_packed_span.new.into) c.args.columns.now
    c.requires.depth c.requires.few c.requires.sums row

pub returns : goal.returns
returns g c =
    let x_fits : FitsSigned w64 c.args.x = c.ranges.x in
    let y_fits : FitsSigned w64 c.args.y = c.ranges.y in
    let below_fits : FitsSigned w64 c.number_above.result = search rules in
    let below : c.number_above.result ≡ c.args.y +ℤ pos c.args.rows = simp to_z-of_z at c.number_above.ensures in
    let read : pixels_of g.row.MAX c.read_packed_span.new.into ≡ span_of c.args.from.now c.args.x c.number_above.result (length c.args.columns.now) = simp to_z-of_z at c.read_packed_span.ensures.pixels in
    let row = row_read g.row.MAX c.args.from.now c.args.x (c.args.y +ℤ pos c.args.rows) (length c.args.columns.now) (pixels_of g.row.MAX c.read_packed_span.new.into)
    (read ∙ ap (λ y. span_of c.args.from.now c.args.x y (length c.args.columns.now)) below) c.read_packed_span.ensures.packed.premultiplied in
    entered g.row.MAX (at c.args.from.now) c.args.x c.args.y c.args.rows c.args.columns.now (pixels_of g.row.MAX c.read_packed_span.new.into) c.add_row.new.columns
    c.add_row.auto.columns c.requires.sums row c.add_row.ensures
