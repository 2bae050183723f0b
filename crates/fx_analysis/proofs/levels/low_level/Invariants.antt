use Rattle.std.specs.Prelude.{sum}
use Rattle.std.proofs.Common.{◌≡◌, take}
use Rattle.fx_analysis.proofs.Found.{NoneBelow}
use Rattle.fx_analysis.proofs.levels.low_level.Given as goal

abbrev pub invariant-loop-level : goal.invariant-loop-level
invariant-loop-level l = record {
  count : l.count ≡ sum (take l.level l.counts);
  below : NoneBelow l.clip l.counts l.level;
}
