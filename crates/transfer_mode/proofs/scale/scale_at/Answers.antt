use Rattle.std.proofs.Common.{◌+◌, arith}
use Rattle.argb_pixel.proofs.Filled.{one_at}
use Rattle.transfer_mode.proofs.scale.scale_at.Goals as goal

pub unpack_pixel-pixel-requires : goal.unpack_pixel-pixel-requires
unpack_pixel-pixel-requires g c =
    (omega arith, (c.requires.depth, one_at g.row.MAX c.requires.depth c.args.row.now c.args.at (c.args.at + c.pixel_size.result) c.requires.within c.requires.packed (omega (arith, c.pixel_size.ensures))))
