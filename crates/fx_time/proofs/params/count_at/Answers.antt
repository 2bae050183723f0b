use Rattle.std.proofs.Common.{ℕ, ◌≤◌, arith, subst, sym}
use Rattle.std.proofs.lemmas.Int.{ints}
use Rattle.project_model.specs.Effects.{use_of}
use Rattle.effect_api.specs.Laws.{part_within}
use Rattle.fx_time.specs.Laws.{count_within}
use Rattle.fx_time.proofs.params.count_at.Goals as goal

pub amount-requires-clause-range : goal.amount-requires-clause-range
amount-requires-clause-range c =
    let h = count_within (use_of c.args.fx.now) c.args.at c.requires.fits in
    (omega (arith, ints, h.0), omega (arith, ints, h.1))

pub returns-clause-within : goal.returns-clause-within
returns-clause-within c =
    subst (λ (n : ℕ). n ≤ 8) (sym c.amount.ensures) (part_within _ 8 (count_within (use_of c.args.fx.now) c.args.at c.requires.fits).1)
