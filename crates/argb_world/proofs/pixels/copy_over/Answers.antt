use Rattle.std.proofs.Common.{w64, ◌≡◌, ◌+◌, ◌≤◌, ◌*◌, length, ap, sym, subst, ◌∙◌}
use Rattle.std.specs.Int.RustNames.{FitsSigned}
use Rattle.std.proofs.lemmas.Int.{to_z-of_z}
use Rattle.argb_world.specs.Picture.{span_of}
use Rattle.argb_world.proofs.Spans.{length_span}
use Rattle.argb_pixel.specs.Packed.{pixel_size}
use Rattle.argb_pixel.proofs.Places.{part_put, part_put_packed}
use Rattle.argb_world.proofs.pixels.copy_over.Goals as goal

pub returns-clause-packed : goal.returns-clause-packed
returns-clause-packed g c =
    let is = c.pixel_size-size.ensures in
    let within = subst (λ s. s * (c.args.start + c.args.count) ≤ length c.args.bytes.now) (sym is) c.requires.there in
    let new = c.read_packed_span.new.into in
    let x_fits : FitsSigned w64 c.args.x = c.ranges.x in
    let y_fits : FitsSigned w64 c.args.y = c.ranges.y in
    let made = simp to_z-of_z at c.read_packed_span.ensures.pixels in
    let long : length new ≡ c.pixel_size-size.result * c.args.count = c.read_packed_span.ensures.packed.whole ∙ ap (λ m. pixel_size g.row.MAX * m) (ap length made ∙ length_span c.args.from.now c.args.x c.args.y c.args.count) ∙ ap (λ s. s * c.args.count) (sym is) in
    part_put_packed g.row.MAX c.pixel_size-size.result c.args.start c.args.count c.args.bytes.now new c.requires.depth is within long c.requires.packed c.read_packed_span.ensures.packed

pub returns-clause-pixels : goal.returns-clause-pixels
returns-clause-pixels g c =
    let is = c.pixel_size-size.ensures in
    let within = subst (λ s. s * (c.args.start + c.args.count) ≤ length c.args.bytes.now) (sym is) c.requires.there in
    let new = c.read_packed_span.new.into in
    let x_fits : FitsSigned w64 c.args.x = c.ranges.x in
    let y_fits : FitsSigned w64 c.args.y = c.ranges.y in
    let made = simp to_z-of_z at c.read_packed_span.ensures.pixels in
    let long : length new ≡ c.pixel_size-size.result * c.args.count = c.read_packed_span.ensures.packed.whole ∙ ap (λ m. pixel_size g.row.MAX * m) (ap length made ∙ length_span c.args.from.now c.args.x c.args.y c.args.count) ∙ ap (λ s. s * c.args.count) (sym is) in
    part_put g.row.MAX c.pixel_size-size.result c.args.start c.args.count c.args.bytes.now new (span_of c.args.from.now c.args.x c.args.y c.args.count) c.requires.depth is within long made
