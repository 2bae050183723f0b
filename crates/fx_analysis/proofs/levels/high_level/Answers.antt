use Rattle.std.specs.Prelude.{sum}
use Rattle.std.proofs.Common.{◌≡◌, ℕ, ◌-◌, ◌*◌, ◌<◌, get_or, refl, ap, sym, arith}
use Rattle.std.proofs.lemmas.List.{drop_all}
use Rattle.fx_analysis.specs.Formulas.{count_from}
use Rattle.fx_analysis.proofs.Found.{back_more, more_true, high_found, high_none}
use Rattle.fx_analysis.proofs.levels.high_level.Goals as goal

pub loop-above-init : goal.loop-above-init
loop-above-init c = record {
  upper = sym (ap sum (drop_all 256 c.args.counts.now (omega (arith, c.requires.counts.levels))));
  above = λ k far l. absurd (omega (arith, far, l));
}

pub returns-then-upper-most-clause-value : goal.returns-then-upper-most-clause-value
returns-then-upper-most-clause-value c =
    let counts = c.args.counts.now in
    let above = c.loop-above.above in
    let item : ℕ = get_or counts (255 - above) 0 in
    let here = back_more counts above c.loop-above.upper item c.requires.counts c.loop-above-test.true c.loop-above.invariant.upper refl in
    let most : c.args.clip * c.total.result ≡ c.args.clip * sum counts = ap (λ (n : ℕ). c.args.clip * n) c.total.ensures.value in
    let over : c.args.clip * sum counts < 10000 * count_from counts (255 - above) = omega (arith, c.if-upper-most.true, here, most) in
    high_found c.args.clip counts above c.loop-above-test.true c.loop-above.invariant.above (more_true c.args.clip (count_from counts (255 - above)) counts over)

pub returns-clause-value : goal.returns-clause-value
returns-clause-value c = high_none c.args.clip c.args.counts.now c.loop-above.above c.loop-above-test.false c.loop-above.invariant.above
