use Rattle.std.proofs.Common.{◌-◌, length, drop}
use lib.Lanes.{zip2}
use Rattle.argb_pixel.specs.Packed.{pixels_of, IsPacked}
use Rattle.argb_pixel.proofs.Filled.{Laid}
use Rattle.transfer_mode.proofs.packed.combine_bytes.Given as goal

-- the pixels before the place are made
abbrev pub invariant-pixels : goal.invariant-pixels
invariant-pixels g l = record {
  laid : Laid g.row.MAX (λ at. zip2 g.C.Combine.combined (pixels_of g.row.MAX (drop at l.s)) (pixels_of g.row.MAX (drop at l.fn.d))) l.fn.d l.d l.at;
  source : IsPacked g.row.MAX (drop l.at l.s);
  destination : IsPacked g.row.MAX (drop l.at l.fn.d);
}

abbrev pub decreases-pixels : goal.decreases-pixels
decreases-pixels g l = length l.d - l.at
