use Rattle.std.proofs.Common.{◌≡◌, pos, ◌+ℤ◌, ◌++◌, take}
use Rattle.comp_stack.specs.Layers.{plane_of}
use Rattle.fx_analysis.specs.Sums.{line_of, rows_of, histogram_of}
use Rattle.fx_analysis.proofs.analyse.count_row.Given as goal

abbrev pub invariant-loop-i : goal.invariant-loop-i
invariant-loop-i g l =
    l.counts ≡ histogram_of (rows_of (plane_of l.world) l.k ++ take l.i (line_of (plane_of l.world) (l.world.extent.top +ℤ pos l.k)))
