use Rattle.std.specs.Prelude.{sum_by}
use Rattle.std.proofs.Common.{◌≡◌, take}
use Rattle.argb_pixel.specs.Pixel.{luma_of}
use Rattle.argb_pixel.specs.Packed.{pixels_of}
use Rattle.fx_analysis.proofs.light.row_light.Given as goal

abbrev pub invariant-loop-i : goal.invariant-loop-i
invariant-loop-i g l = record {
  luma : l.luma ≡ sum_by luma_of (take l.i (pixels_of g.row.MAX l.row));
  alpha : l.alpha ≡ sum_by (λ p. p.a) (take l.i (pixels_of g.row.MAX l.row));
}
