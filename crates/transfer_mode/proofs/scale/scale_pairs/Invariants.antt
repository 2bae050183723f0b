use Rattle.std.proofs.Common.{◌-◌, length, drop, map}
use Rattle.argb_pixel.specs.Pixel.{scale_of}
use Rattle.argb_pixel.specs.Packed.{pixels_of, IsPacked}
use Rattle.argb_pixel.proofs.Filled.{Laid}
use Rattle.transfer_mode.proofs.scale.scale_pairs.Given as goal

-- the pixels before the place are scaled
abbrev pub invariant-pairs : goal.invariant-pairs
invariant-pairs g l = record {
  laid : Laid g.row.MAX (λ at. map (λ p. scale_of p l.opacity) (pixels_of g.row.MAX (drop at l.fn.row))) l.fn.row l.row l.at;
  destination : IsPacked g.row.MAX (drop l.at l.fn.row);
}

abbrev pub decreases-pairs : goal.decreases-pairs
decreases-pairs g l = length l.row - l.at
