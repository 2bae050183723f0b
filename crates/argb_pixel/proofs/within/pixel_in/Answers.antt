use Rattle.std.proofs.Common.{◌≡◌, ◌≤◌, ◌∙◌, ap₂, ap, ◌*◌, arith}
use Rattle.argb_pixel.proofs.Places.{one_packed, one_read, mid_length}
use Rattle.argb_pixel.proofs.within.pixel_in.Goals as goal

pub unpack_pixel-requires : goal.unpack_pixel-requires
unpack_pixel-requires g c =
    let first = ap (λ s. s * c.args.at) c.pixel_size.ensures in
    let within = c.requires.there in
    (omega arith, (c.requires.depth, (mid_length _ _ c.args.bytes.now (omega (arith, first, within, c.pixel_size-2.ensures)) ∙ omega (arith, c.pixel_size-2.ensures), one_packed g.row.MAX _ _ c.args.at c.args.bytes.now c.requires.depth first (omega (arith, c.pixel_size-2.ensures)) (omega (arith, first, within, c.pixel_size-2.ensures)) c.requires.packed)))

pub returns : goal.returns
returns g c =
    let first = ap (λ s. s * c.args.at) c.pixel_size.ensures in
    let within = c.requires.there in
    one_read g.row.MAX _ _ c.args.at c.args.bytes.now c.unpack_pixel.result c.requires.depth first (omega (arith, c.pixel_size-2.ensures)) (omega (arith, first, within, c.pixel_size-2.ensures)) c.unpack_pixel.ensures
