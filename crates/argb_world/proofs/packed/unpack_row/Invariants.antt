use Rattle.std.proofs.Common.{◌≡◌, ◌++◌, take, drop}
use Rattle.argb_pixel.specs.Packed.{pixels_of}
use Rattle.argb_world.proofs.packed.unpack_row.Given as goal

-- the pixels so far
abbrev pub invariant-loop-i : goal.invariant-loop-i
invariant-loop-i g l = l.into ≡ take l.i (pixels_of g.row.MAX l.bytes) ++ drop l.i l.fn.into
