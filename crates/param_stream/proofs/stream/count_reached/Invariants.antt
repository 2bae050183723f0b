use Rattle.std.proofs.Common.{ℕ, ◌≤◌, ◌<◌, ◌-◌, length, slice_index_or, pos, ◌≤ℤ◌, ◌<ℤ◌}
use Rattle.param_stream.proofs.stream.count_reached.Given as goal

abbrev pub invariant-loop-low : goal.invariant-loop-low
invariant-loop-low l = record {
  order : l.low ≤ l.high;
  within : l.high ≤ length l.ticks;
  below : (i : ℕ) → i < l.low → slice_index_or l.ticks i (pos 0) ≤ℤ l.tick;
  above : (i : ℕ) → l.high ≤ i → i < length l.ticks → l.tick <ℤ slice_index_or l.ticks i (pos 0);
}

abbrev pub decreases-loop-low : goal.decreases-loop-low
decreases-loop-low l = l.high - l.low
