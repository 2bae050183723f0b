use Rattle.std.proofs.Common.{◌≡◌, All, take, map}
use Rattle.argb_pixel.specs.Pixel.{IsPremultiplied}
use Rattle.argb_pixel.specs.Packed.{pixels_of}
use Rattle.argb_pixel.proofs.Places.{front_of}
use Rattle.fx_blur.specs.Sums.{mean_of}
use Rattle.fx_time.proofs.mean.write_means.Given as goal

-- the means so far
abbrev pub invariant-loop-i : goal.invariant-loop-i
invariant-loop-i g l = record {
  pixels : pixels_of g.row.MAX l.into ≡ front_of (map (mean_of l.count) l.sums) (pixels_of g.row.MAX l.fn.into) l.i;
  premultiplied : All (IsPremultiplied g.row.MAX) (take l.i (map (mean_of l.count) l.sums));
}
