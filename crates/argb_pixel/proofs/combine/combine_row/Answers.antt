use Rattle.std.proofs.Common.{arith}
use Rattle.argb_pixel.proofs.Rows.{zip_over_more}
use Rattle.argb_pixel.proofs.combine.combine_row.Goals as goal

pub loop-i-preserved : goal.loop-i-preserved
loop-i-preserved g c =
    zip_over_more g.C.Combine.combined c.args.source.now c.args.destination.now c.loop-i.destination c.loop-i.i c.index-source-i.result c.index-destination-i.result c.combine.result (omega (arith, c.loop-i.auto.destination, c.loop-i-test.true, c.requires.long)) (omega (arith, c.loop-i.auto.destination, c.loop-i-test.true))
    c.loop-i.invariant c.index-source-i.is c.index-destination-i.is c.combine.ensures
