use Rattle.std.proofs.Common.{◌≤◌, All, take}
use Rattle.argb_pixel.specs.Packed.{pixels_of}
use Rattle.comp_stack.proofs.over.least_alpha.Given as goal

-- of the pixels so far
abbrev pub invariant-loop-i : goal.invariant-loop-i
invariant-loop-i g l = All (λ p. l.least ≤ p.a) (take l.i (pixels_of g.row.MAX l.row))
