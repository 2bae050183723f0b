use Rattle.std.proofs.Common.{◌≡◌, ◌+◌, ◌-◌, take, drop, ap, ◌∙◌, arith}
use Rattle.argb_pixel.specs.Packed.{pixel_size, pixels_of}
use Rattle.argb_pixel.proofs.Filled.{one_at}
use Rattle.transfer_mode.proofs.packed.pixel_at.Goals as goal

pub unpack_pixel-requires : goal.unpack_pixel-requires
unpack_pixel-requires g c =
    (omega arith, (c.requires.depth, one_at g.row.MAX c.requires.depth c.args.bytes.now c.args.at (c.args.at + c.pixel_size.result) c.requires.within c.requires.packed (omega (arith, c.pixel_size.ensures))))

pub returns : goal.returns
returns g c =
    let size : pixel_size g.row.MAX ≡ c.args.at + c.pixel_size.result - c.args.at = omega (arith, c.pixel_size.ensures) in
    ap (λ n. pixels_of g.row.MAX (take n (drop c.args.at c.args.bytes.now))) size ∙ c.unpack_pixel.ensures
