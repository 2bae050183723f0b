use Rattle.std.proofs.Common.{◌≡◌, map, take}
use Rattle.fx_analysis.specs.Counts.{share_of}
use Rattle.fx_analysis.proofs.equalize.full_shares.Given as goal

abbrev pub invariant-loop-count : goal.invariant-loop-count
invariant-loop-count g l = l.full.items ≡ map (share_of l.total g.row.MAX) (take l.count-index l.up_to)
