use Rattle.std.specs.Prelude.{sum_by}
use Rattle.std.proofs.Common.{◌≡◌, take}
use Rattle.effect_api.specs.Checked.{sums_in}
use Rattle.fx_analysis.specs.Formulas.{number_in}
use Rattle.fx_analysis.proofs.draw.all_light.Given as goal

abbrev pub invariant-loop-i : goal.invariant-loop-i
invariant-loop-i g l = record {
  luma : l.luma ≡ sum_by (λ light. number_in light 0) (take l.i (sums_in l.sums));
  alpha : l.alpha ≡ sum_by (λ light. number_in light 1) (take l.i (sums_in l.sums));
}
