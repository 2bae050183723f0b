use Rattle.std.proofs.Common.{◌≡◌, ℕ, ◌+◌, ◌-◌, ◌<ℤ◌, arith, below_more}
use Rattle.std.proofs.lemmas.Int.{ints}
use Rattle.param_stream.specs.Curve.{tick_at}
use Rattle.param_stream.proofs.stream.first_not_rising.Goals as goal

pub loop-index-preserved : goal.loop-index-preserved
loop-index-preserved c i h =
    let index : ℕ = c.loop-index.index in
    let P : ℕ → Type 0 = λ k. tick_at c.args.base.ticks c.args.keys.now k <ℤ tick_at c.args.base.ticks c.args.keys.now (k + 1) in
    let e : index - 1 + 1 ≡ index = omega arith in
    let here : P (index - 1) = rw e (omega (arith, ints, c.to_tick-before.ensures.value, c.to_tick.ensures.value)) in
    below_more P (index - 1) (λ k less. c.loop-index.invariant k (omega arith)) here i (omega arith)
