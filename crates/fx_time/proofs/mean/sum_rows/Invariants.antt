use Rattle.fx_time.specs.Worlds.{planes_in}
use Rattle.fx_time.proofs.Summed.{AreSummed}
use Rattle.fx_time.proofs.mean.sum_rows.Given as goal

abbrev pub invariant-worlds : goal.invariant-worlds
invariant-worlds g l = AreSummed g.row.MAX (planes_in l.worlds) l.x l.y l.i l.sums
