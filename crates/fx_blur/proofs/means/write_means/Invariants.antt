use Rattle.std.proofs.Common.{◌≡◌, ℕ, ◌+◌, ◌*◌, ◌<◌, get_or}
use Rattle.argb_pixel.specs.Pixel.{clear}
use Rattle.fx_blur.specs.Sums.{total, mean_of}
use Rattle.fx_blur.proofs.means.write_means.Given as goal

abbrev pub invariant-loop-i : goal.invariant-loop-i
invariant-loop-i g l = record {
  sum : l.sum ≡ total (λ k. get_or l.columns (l.i + k) clear) l.across;
  done : (i : ℕ) → i < l.i → get_or l.into i clear ≡ mean_of (l.across * l.across) (total (λ k. get_or l.columns (i + k) clear) l.across);
}
