use Rattle.std.proofs.Common.{◌≡◌, ◌++◌, map, take, drop}
use Rattle.argb_pixel.proofs.combine.combine_each.Given as goal

-- those before the place are done, and the others are as they were
abbrev pub invariant-loop-pixel : goal.invariant-loop-pixel
invariant-loop-pixel g l = l.destination ≡ map (g.C.Combine.combined l.source) (take l.pixel-index l.fn.destination) ++ drop l.pixel-index l.fn.destination
