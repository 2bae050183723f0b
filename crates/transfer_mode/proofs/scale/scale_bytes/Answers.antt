use Rattle.std.proofs.Common.{◌+◌, arith}
use Rattle.argb_pixel.specs.Pixel.{scale_of}
use Rattle.argb_pixel.proofs.Channels.{part_premultiplied}
use Rattle.transfer_mode.proofs.Rows.{map_step}
use Rattle.transfer_mode.proofs.scale.scale_bytes.Goals as goal

pub pixels-preserved : goal.pixels-preserved
pixels-preserved g c =
    let step = map_step g.row.MAX c.requires.depth (λ p. scale_of p c.args.opacity) (λ q h. part_premultiplied g.row.MAX 10000 c.args.opacity q (omega arith) c.requires.part h) c.args.row.now c.pixels.row c.scale_at.new.row c.pixels.at (c.pixels.at + c.pixel_size-at.result)
    c.pixels.invariant.laid c.pixels.invariant.destination c.pixels-test.true (omega (arith, c.pixel_size-at.ensures)) c.scale_at.ensures in
    record { laid = step.0; destination = step.1 }
