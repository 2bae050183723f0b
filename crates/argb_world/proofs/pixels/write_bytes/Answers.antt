use Rattle.std.proofs.Common.{◌≡◌, ◌+◌, ◌≤◌, ◌*◌, length, ap, sym, subst, ◌∙◌}
use Rattle.argb_pixel.specs.Packed.{pixels_of, IsPacked}
use Rattle.argb_pixel.proofs.Places.{part_put, part_put_packed}
use Rattle.argb_world.proofs.pixels.write_bytes.Goals as goal

pub returns-clause-packed : goal.returns-clause-packed
returns-clause-packed g c =
    let is = c.pixel_size-size.ensures in
    let within = subst (λ s. s * (c.args.start + c.args.count) ≤ length c.args.bytes.now) (sym is) c.requires.there in
    let new = c.copy_from_slice.new.self in
    let long : length new ≡ c.pixel_size-size.result * c.args.count = ap length c.copy_from_slice.ensures.after ∙ c.requires.long ∙ ap (λ s. s * c.args.count) (sym is) in
    part_put_packed g.row.MAX c.pixel_size-size.result c.args.start c.args.count c.args.bytes.now new c.requires.depth is within long c.requires.packed
    (subst (IsPacked g.row.MAX) (sym c.copy_from_slice.ensures.after) c.requires.from)

pub returns-clause-pixels : goal.returns-clause-pixels
returns-clause-pixels g c =
    let is = c.pixel_size-size.ensures in
    let within = subst (λ s. s * (c.args.start + c.args.count) ≤ length c.args.bytes.now) (sym is) c.requires.there in
    let new = c.copy_from_slice.new.self in
    let long : length new ≡ c.pixel_size-size.result * c.args.count = ap length c.copy_from_slice.ensures.after ∙ c.requires.long ∙ ap (λ s. s * c.args.count) (sym is) in
    part_put g.row.MAX c.pixel_size-size.result c.args.start c.args.count c.args.bytes.now new (pixels_of g.row.MAX c.args.from.now) c.requires.depth is within long
    (ap (pixels_of g.row.MAX) c.copy_from_slice.ensures.after)
