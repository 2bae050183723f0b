use Rattle.std.proofs.Common.{arith}
use Rattle.fx_blur.proofs.Adding.{adding_fits}
use Rattle.fx_blur.proofs.means.sum_columns.Goals as goal

pub plus-sum-requires : goal.plus-sum-requires
plus-sum-requires c =
    adding_fits c.args.columns.now c.args.start c.loop-k.k c.loop-k.sum c.index-columns-start.result c.requires.within
    (omega (arith, c.loop-k-test.true, c.requires.there)) (omega (arith, c.loop-k-test.true, c.requires.few)) c.loop-k.invariant c.index-columns-start.is
