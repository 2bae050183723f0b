use Rattle.std.proofs.Common.{◌≡◌, take}
use Rattle.argb_pixel.specs.Packed.{pixels_of}
use Rattle.frame_span.specs.Sums.{sums_of}
use Rattle.frame_span.proofs.sums.row_sums.Given as goal

-- the pixels so far are in the sums
abbrev pub invariant-pixels : goal.invariant-pixels
invariant-pixels g l = l.sums ≡ sums_of (take l.x (pixels_of g.row.MAX l.row))
