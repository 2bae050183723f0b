use Rattle.std.proofs.Common.{◌≡◌, ◌+◌, get_or}
use Rattle.argb_pixel.specs.Pixel.{clear}
use Rattle.fx_blur.specs.Sums.{total}
use Rattle.fx_blur.proofs.means.sum_columns.Given as goal

abbrev pub invariant-loop-k : goal.invariant-loop-k
invariant-loop-k l = l.sum ≡ total (λ k. get_or l.columns (l.start + k) clear) l.k
