use Rattle.std.proofs.Common.{◌≡◌, ◌+◌, ◌≤◌, ◌*◌, length, sym, subst, ◌∙◌}
use Rattle.argb_pixel.proofs.Places.{part_length, part_put, part_put_packed}
use Rattle.argb_world.proofs.pixels.write_from.Goals as goal

pub returns-clause-packed : goal.returns-clause-packed
returns-clause-packed g c =
    let is = c.pixel_size-size.ensures in
    let n = length c.args.from.now in
    let within = subst (λ s. s * (c.args.start + n) ≤ length c.args.bytes.now) (sym is) c.requires.there in
    let long : length c.pack_row.new.into ≡ c.pixel_size-size.result * n = c.pack_row.ensures.long ∙ part_length c.pixel_size-size.result c.args.start n c.args.bytes.now within in
    part_put_packed g.row.MAX c.pixel_size-size.result c.args.start n c.args.bytes.now c.pack_row.new.into c.requires.depth is within long c.requires.packed c.pack_row.ensures.packed

pub returns-clause-pixels : goal.returns-clause-pixels
returns-clause-pixels g c =
    let is = c.pixel_size-size.ensures in
    let n = length c.args.from.now in
    let within = subst (λ s. s * (c.args.start + n) ≤ length c.args.bytes.now) (sym is) c.requires.there in
    let long : length c.pack_row.new.into ≡ c.pixel_size-size.result * n = c.pack_row.ensures.long ∙ part_length c.pixel_size-size.result c.args.start n c.args.bytes.now within in
    part_put g.row.MAX c.pixel_size-size.result c.args.start n c.args.bytes.now c.pack_row.new.into c.args.from.now c.requires.depth is within long c.pack_row.ensures.pixels
