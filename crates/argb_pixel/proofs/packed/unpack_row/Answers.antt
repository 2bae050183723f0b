use Rattle.std.proofs.Common.{◌+◌, ◌-◌, ◌<◌, length, arith}
use Rattle.argb_pixel.specs.Packed.{pixel_size}
use Rattle.argb_pixel.proofs.Bytes.{pixel_size_pos}
use Rattle.argb_pixel.proofs.Filled.{one_at, room_of, unpack_step}
use Rattle.argb_pixel.proofs.packed.unpack_row.Goals as goal

pub unpack_pixel-requires : goal.unpack_pixel-requires
unpack_pixel-requires g c =
    let room = room_of (pixel_size g.row.MAX) c.loop-pixel.pixel-index (length c.args.into.now) c.loop-pixel.at (length c.args.bytes.now) (omega (arith, c.loop-pixel-test.true, c.loop-pixel.auto.pixel-index-end)) c.loop-pixel.invariant.place c.requires.long in
    let lt : c.loop-pixel.at < length c.args.bytes.now = omega (arith, room, pixel_size_pos g.row.MAX c.requires.depth) in
    (omega arith, (c.requires.depth, one_at g.row.MAX c.requires.depth c.args.bytes.now c.loop-pixel.at (c.loop-pixel.at + c.pixel_size.result) lt c.loop-pixel.invariant.sound (omega (arith, c.pixel_size.ensures))))

pub loop-pixel-preserved : goal.loop-pixel-preserved
loop-pixel-preserved g c =
    let few : c.loop-pixel.pixel-index < length c.args.into.now = omega (arith, c.loop-pixel-test.true, c.loop-pixel.auto.pixel-index-end) in
    let room = room_of (pixel_size g.row.MAX) c.loop-pixel.pixel-index (length c.args.into.now) c.loop-pixel.at (length c.args.bytes.now) few c.loop-pixel.invariant.place c.requires.long in
    let lt : c.loop-pixel.at < length c.args.bytes.now = omega (arith, room, pixel_size_pos g.row.MAX c.requires.depth) in
    let step = unpack_step g.row.MAX c.requires.depth c.args.bytes.now c.loop-pixel.into c.args.into.now c.loop-pixel.at c.loop-pixel.pixel-index (c.loop-pixel.at + c.pixel_size.result - c.loop-pixel.at) (c.loop-pixel.at + c.pixel_size-at.result) c.unpack_pixel.result
    c.loop-pixel.invariant.read c.loop-pixel.invariant.rest c.loop-pixel.invariant.sound lt few c.unpack_pixel.ensures (omega (arith, c.pixel_size.ensures)) (omega (arith, c.pixel_size-at.ensures)) in
    record {
      read = step.0;
      rest = step.1.0;
      sound = step.1.1;
      place = omega (arith, c.loop-pixel.invariant.place, c.pixel_size-at.ensures);
    }
