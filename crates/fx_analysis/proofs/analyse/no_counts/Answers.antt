use Rattle.std.proofs.Common.{◌∙◌}
use Rattle.fx_analysis.proofs.Counting.{no_pixels}
use Rattle.fx_analysis.proofs.analyse.no_counts.Goals as goal

pub returns : goal.returns
returns c = c.in_ok-vec.ensures.items_if_clones_equal (λ y e. e) ∙ no_pixels
