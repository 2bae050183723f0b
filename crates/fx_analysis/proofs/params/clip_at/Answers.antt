use Rattle.std.proofs.Common.{ℕ, ◌≤◌, subst, sym}
use Rattle.project_model.specs.Effects.{use_of}
use Rattle.fx_analysis.specs.Laws.{clip_range, clip_within}
use Rattle.fx_analysis.proofs.params.clip_at.Goals as goal

pub amount-requires-clause-range : goal.amount-requires-clause-range
amount-requires-clause-range c = clip_range (use_of c.args.fx.now) c.args.at c.requires.fits

pub returns-clause-within : goal.returns-clause-within
returns-clause-within c = subst (λ (n : ℕ). n ≤ 4999) (sym c.amount.ensures) (clip_within (use_of c.args.fx.now) c.args.at c.requires.fits)
