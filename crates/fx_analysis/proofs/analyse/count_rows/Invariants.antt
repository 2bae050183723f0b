use Rattle.std.proofs.Common.{◌≡◌}
use Rattle.comp_stack.specs.Layers.{plane_of}
use Rattle.fx_analysis.specs.Sums.{rows_of, histogram_of}
use Rattle.fx_analysis.proofs.analyse.count_rows.Given as goal

abbrev pub invariant-rows : goal.invariant-rows
invariant-rows g l = l.counts ≡ histogram_of (rows_of (plane_of l.world) l.k)
