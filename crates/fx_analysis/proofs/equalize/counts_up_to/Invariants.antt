use Rattle.std.specs.Prelude.{sum}
use Rattle.std.specs.List.{range_with_len}
use Rattle.std.proofs.Common.{◌≡◌, take, map}
use Rattle.fx_analysis.specs.Formulas.{count_to}
use Rattle.fx_analysis.proofs.equalize.counts_up_to.Given as goal

abbrev pub invariant-loop-level : goal.invariant-loop-level
invariant-loop-level l = record {
  count : l.count ≡ sum (take l.level l.counts);
  made : l.up_to.items ≡ map (count_to l.counts) (range_with_len 0 l.level);
}
