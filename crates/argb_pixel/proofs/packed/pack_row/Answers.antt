use Rattle.std.proofs.Common.{◌+◌, ◌-◌, arith}
use Rattle.argb_pixel.proofs.Filled.{pack_step}
use Rattle.argb_pixel.proofs.packed.pack_row.Goals as goal

pub loop-pixel-preserved : goal.loop-pixel-preserved
loop-pixel-preserved g c = record {
  filled = pack_step g.row.MAX c.requires.depth c.args.row.now c.loop-pixel.into c.pack_pixel.new.into c.loop-pixel.at c.loop-pixel.pixel-index (c.loop-pixel.at + c.pixel_size.result - c.loop-pixel.at) (c.loop-pixel.at + c.pixel_size-at.result) c.pixel-item.result
      c.loop-pixel.invariant.filled (omega (arith, c.loop-pixel-test.true, c.loop-pixel.auto.pixel-index-end)) c.pixel-item.is c.a-alpha.ensures.premultiplied c.pack_pixel.ensures c.loop-pixel.invariant.place (omega (arith, c.loop-pixel.auto.into, c.requires.long)) (omega (arith, c.pixel_size-at.ensures));
  place = omega (arith, c.loop-pixel.invariant.place, c.pixel_size-at.ensures);
}
