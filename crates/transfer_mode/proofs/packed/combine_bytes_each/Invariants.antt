use Rattle.std.proofs.Common.{◌-◌, length, drop, map}
use Rattle.argb_pixel.specs.Packed.{pixels_of, IsPacked}
use Rattle.argb_pixel.proofs.Filled.{Laid}
use Rattle.transfer_mode.proofs.packed.combine_bytes_each.Given as goal

-- the pixels before the place are made
abbrev pub invariant-pixels : goal.invariant-pixels
invariant-pixels g l = record {
  laid : Laid g.row.MAX (λ at. map (g.C.Combine.combined l.source) (pixels_of g.row.MAX (drop at l.fn.d))) l.fn.d l.d l.at;
  destination : IsPacked g.row.MAX (drop l.at l.fn.d);
}

abbrev pub decreases-pixels : goal.decreases-pixels
decreases-pixels g l = length l.d - l.at
