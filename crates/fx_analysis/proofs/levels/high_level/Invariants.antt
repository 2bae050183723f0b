use Rattle.std.specs.Prelude.{sum}
use Rattle.std.proofs.Common.{◌≡◌, ◌-◌, drop}
use Rattle.fx_analysis.proofs.Found.{NoneAbove}
use Rattle.fx_analysis.proofs.levels.high_level.Given as goal

abbrev pub invariant-loop-above : goal.invariant-loop-above
invariant-loop-above l = record {
  upper : l.upper ≡ sum (drop (256 - l.above) l.counts);
  above : NoneAbove l.clip l.counts l.above;
}
