use Rattle.std.proofs.Common.{◌≡◌}
use lib.Lanes.{zip2}
use Rattle.argb_pixel.specs.Packed.{pixels_of, IsPacked}
use Rattle.argb_pixel.proofs.Places.{front_of}
use Rattle.fx_time.specs.Formulas.{difference_of}
use Rattle.fx_time.proofs.difference.take_difference.Given as goal

abbrev pub invariant-loop-i : goal.invariant-loop-i
invariant-loop-i g l = record {
  packed : IsPacked g.row.MAX l.into;
  pixels : pixels_of g.row.MAX l.into
      ≡ front_of (zip2 difference_of (pixels_of g.row.MAX l.first) (pixels_of g.row.MAX l.fn.into)) (pixels_of g.row.MAX l.fn.into) l.i;
}
