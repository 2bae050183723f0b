use Rattle.std.proofs.Common.{ℕ, ◌<◌, arith, subst, sym}
use Rattle.std.proofs.lemmas.Int.{ints}
use Rattle.project_model.specs.Effects.{use_of}
use Rattle.fx_time.specs.Laws.{step_within, step_some}
use Rattle.fx_time.proofs.params.step_at.Goals as goal

pub amount-requires-clause-range : goal.amount-requires-clause-range
amount-requires-clause-range c =
    let h = step_within (use_of c.args.fx.now) c.args.at c.requires.fits in
    (omega (arith, ints, h.0), omega (arith, ints, h.1))

pub returns-clause-some : goal.returns-clause-some
returns-clause-some c = subst (λ (n : ℕ). 0 < n) (sym c.amount.ensures) (step_some (use_of c.args.fx.now) c.args.at c.requires.fits)
