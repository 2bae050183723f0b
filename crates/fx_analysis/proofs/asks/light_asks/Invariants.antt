use Rattle.std.specs.List.{range_with_len}
use Rattle.std.proofs.Common.{◌≡◌, map, pos, ◌-ℤ◌}
use Rattle.fx_analysis.specs.Analysis.{asked, tick_after}
use Rattle.fx_analysis.proofs.asks.light_asks.Given as goal

abbrev pub invariant-loop-i : goal.invariant-loop-i
invariant-loop-i l = l.asks.items ≡ map (λ i. asked 2 (tick_after l.at (pos i -ℤ pos l.radius))) (range_with_len 0 l.i)
