use Rattle.std.proofs.Common.{ℕ, ◌≤◌, subst, sym}
use Rattle.project_model.specs.Effects.{use_of}
use Rattle.fx_analysis.specs.Laws.{radius_range, radius_within}
use Rattle.fx_analysis.proofs.params.radius_at.Goals as goal

pub amount-requires-clause-range : goal.amount-requires-clause-range
amount-requires-clause-range c = radius_range (use_of c.args.fx.now) c.args.at c.requires.fits

pub returns-clause-within : goal.returns-clause-within
returns-clause-within c = subst (λ (n : ℕ). n ≤ 4) (sym c.amount.ensures) (radius_within (use_of c.args.fx.now) c.args.at c.requires.fits)
