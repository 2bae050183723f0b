use Rattle.std.proofs.Common.{length, arith}
use Rattle.argb_pixel.specs.Packed.{pixels_of}
use Rattle.argb_pixel.proofs.Parts.{pixels_length}
use Rattle.argb_pixel.proofs.Places.{front_more}
use Rattle.argb_world.proofs.packed.unpack_row.Goals as goal

pub loop-i-preserved : goal.loop-i-preserved
loop-i-preserved g c =
    let same = pixels_length g.row.MAX (length c.args.into.now) c.args.bytes.now c.requires.depth c.requires.long in
    front_more (pixels_of g.row.MAX c.args.bytes.now) c.args.into.now c.loop-i.into c.loop-i.i c.pixel_in.result same (omega (arith, c.loop-i-test.true)) c.loop-i.invariant c.pixel_in.ensures
