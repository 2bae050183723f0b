use Rattle.std.proofs.Common.{◌+◌, ◌≤◌, ◌*◌, length, ap, sym, subst, ◌∙◌}
use Rattle.argb_pixel.proofs.Places.{part_length, part_read, part_packed}
use Rattle.frame_file.proofs.clip.packed_part.Goals as goal

pub returns-clause-long : goal.returns-clause-long
returns-clause-long g c =
    let is = c.pixel_size-size.ensures in
    let within = subst (λ s. s * (c.args.start + c.args.count) ≤ length c.args.pixels.now) (sym is) c.requires.there in
    part_length c.pixel_size-size.result c.args.start c.args.count c.args.pixels.now within ∙ ap (λ s. s * c.args.count) is

pub returns-clause-packed : goal.returns-clause-packed
returns-clause-packed g c =
    let is = c.pixel_size-size.ensures in
    let within = subst (λ s. s * (c.args.start + c.args.count) ≤ length c.args.pixels.now) (sym is) c.requires.there in
    part_packed g.row.MAX c.pixel_size-size.result c.args.start c.args.count c.args.pixels.now c.requires.depth is within c.requires.packed

pub returns-clause-pixels : goal.returns-clause-pixels
returns-clause-pixels g c =
    part_read g.row.MAX c.pixel_size-size.result c.args.start c.args.count c.args.pixels.now c.requires.depth c.pixel_size-size.ensures
