use Rattle.std.proofs.Common.{◌≡◌, ◌≤◌, ◌∙◌, ap, ◌*◌, arith}
use Rattle.argb_pixel.proofs.Places.{one_put}
use Rattle.argb_pixel.proofs.within.put_pixel.Goals as goal

pub returns-clause-pixels : goal.returns-clause-pixels
returns-clause-pixels g c =
    let first = ap (λ s. s * c.args.at) c.pixel_size.ensures in
    let within = c.requires.there in
    one_put g.row.MAX _ _ c.args.at c.args.into.now c.pack_pixel.new.into c.args.pixel c.requires.depth first (omega (arith, c.pixel_size-2.ensures)) (omega (arith, first, within, c.pixel_size-2.ensures)) c.a.ensures.premultiplied c.pack_pixel.ensures
