use Rattle.std.proofs.Common.{ℕ, ◌+◌, ◌-◌, ◌/◌, arith}
use Rattle.std.proofs.lemmas.Int.{ints}
use Rattle.param_stream.proofs.stream.count_reached.Goals as goal

pub loop-low-preserved-then-ticks-middle : goal.loop-low-preserved-then-ticks-middle
loop-low-preserved-then-ticks-middle c =
    let middle : ℕ = c.loop-low.low + (c.loop-low.high - c.loop-low.low) / 2 in
    record {
      order = omega arith;
      within = c.loop-low.invariant.within;
      below = λ i less. omega (arith, ints, c.requires i middle (omega arith) (omega arith));
      above = λ i more inside. omega (arith, ints, c.loop-low.invariant.above i more inside);
    }

pub loop-low-preserved : goal.loop-low-preserved
loop-low-preserved c =
    let middle : ℕ = c.loop-low.low + (c.loop-low.high - c.loop-low.low) / 2 in
    record {
      order = omega arith;
      within = omega arith;
      below = λ i less. omega (arith, ints, c.loop-low.invariant.below i less);
      above = λ i more inside. omega (arith, ints, c.requires middle i (omega arith) (omega arith));
    }
