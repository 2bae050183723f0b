use Rattle.std.specs.Prelude.{sum_by}
use Rattle.std.proofs.Common.{◌≡◌}
use Rattle.argb_pixel.specs.Pixel.{luma_of}
use Rattle.comp_stack.specs.Layers.{plane_of}
use Rattle.fx_analysis.specs.Sums.{rows_of}
use Rattle.fx_analysis.proofs.light.world_light.Given as goal

abbrev pub invariant-rows : goal.invariant-rows
invariant-rows g l = record {
  luma : l.luma ≡ sum_by luma_of (rows_of (plane_of l.world) l.k);
  alpha : l.alpha ≡ sum_by (λ p. p.a) (rows_of (plane_of l.world) l.k);
}
