use Rattle.std.specs.Prelude.{sum}
use Rattle.std.proofs.Common.{◌≡◌, ℕ, ◌*◌, ◌<◌, get_or, refl, ap, subst, arith}
use Rattle.fx_analysis.specs.Formulas.{count_to}
use Rattle.fx_analysis.proofs.Found.{NoneBelow, front_more, more_true, low_found}
use Rattle.fx_analysis.proofs.levels.low_level.Goals as goal

pub returns-then-count-most-clause-value : goal.returns-then-count-most-clause-value
returns-then-count-most-clause-value c =
    let counts = c.args.counts.now in
    let level = c.loop-level.level in
    let item : ℕ = get_or counts level 0 in
    let here = front_more counts level c.loop-level.count item c.requires.counts c.loop-level-test.true c.loop-level.invariant.count refl in
    let most : c.args.clip * c.total.result ≡ c.args.clip * sum counts = ap (λ (n : ℕ). c.args.clip * n) c.total.ensures.value in
    let over : c.args.clip * sum counts < 10000 * count_to counts level = omega (arith, c.if-count-most.true, here, most) in
    low_found c.args.clip counts level (omega (arith, c.loop-level-test.true)) c.loop-level.invariant.below (λ _. more_true c.args.clip (count_to counts level) counts over)

pub returns-clause-value : goal.returns-clause-value
returns-clause-value c =
    let all : c.loop-level.level ≡ 256 = omega (arith, c.loop-level.auto.level-end, c.loop-level-test.false) in
    low_found c.args.clip c.args.counts.now 256 (omega arith) (subst (λ (n : ℕ). NoneBelow c.args.clip c.args.counts.now n) all c.loop-level.invariant.below) (λ l. absurd (omega (arith, l)))
