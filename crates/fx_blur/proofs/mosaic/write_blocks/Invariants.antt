use Rattle.std.proofs.Common.{◌≡◌, ℕ, ◌<◌, ℤ, pos, ◌+ℤ◌, ◌≤ℤ◌, ◌<ℤ◌, get_or}
use Rattle.argb_pixel.specs.Pixel.{clear}
use Rattle.fx_blur.specs.Columns.{block_mean}
use Rattle.fx_blur.proofs.mosaic.write_blocks.Given as goal

abbrev pub invariant-loop-i : goal.invariant-loop-i
invariant-loop-i g l = record {
  stripe : (u : ℤ) → l.stripe.0 ≤ℤ u → u <ℤ l.stripe.1.0 → l.stripe.1.1.0 ≡ block_mean l.size l.sides.low l.sides.high l.start l.rows l.columns u;
  done : (k : ℕ) → k < l.i → get_or l.into k clear ≡ block_mean l.size l.sides.low l.sides.high l.start l.rows l.columns (l.part.left +ℤ pos k);
}
