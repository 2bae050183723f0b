use Rattle.std.proofs.Common.{◌+◌, ◌≤◌, ◌*◌, length, sym, subst, ◌∙◌}
use Rattle.argb_pixel.specs.Packed.{pixels_of}
use Rattle.argb_pixel.proofs.Places.{part_read, part_packed, between_part}
use Rattle.argb_world.proofs.pixels.part.Goals as goal

pub returns-clause-packed : goal.returns-clause-packed
returns-clause-packed g c =
    let is = c.pixel_size-size.ensures in
    let within = subst (λ s. s * (c.args.start + c.args.count) ≤ length c.args.bytes.now) (sym is) c.requires.there in
    part_packed g.row.MAX c.pixel_size-size.result c.args.start c.args.count c.args.bytes.now c.requires.depth is within c.requires.packed

pub returns-clause-pixels : goal.returns-clause-pixels
returns-clause-pixels g c =
    part_read g.row.MAX c.pixel_size-size.result c.args.start c.args.count c.args.bytes.now c.requires.depth c.pixel_size-size.ensures
    ∙ between_part (pixels_of g.row.MAX c.args.bytes.now) c.args.start c.args.count
