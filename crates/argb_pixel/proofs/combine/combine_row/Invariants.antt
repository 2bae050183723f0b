use Rattle.std.proofs.Common.{◌≡◌, ◌++◌, take, drop}
use lib.Lanes.{zip2}
use Rattle.argb_pixel.proofs.combine.combine_row.Given as goal

-- those before the place are done, and the others are as they were
abbrev pub invariant-loop-i : goal.invariant-loop-i
invariant-loop-i g l = l.destination ≡ zip2 (g.C.Combine.combined) (take l.i l.source) (take l.i l.fn.destination) ++ drop l.i l.fn.destination
