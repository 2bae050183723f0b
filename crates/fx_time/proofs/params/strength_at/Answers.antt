use Rattle.std.proofs.Common.{ℕ, ◌≤◌, subst, sym}
use Rattle.project_model.specs.Effects.{use_of}
use Rattle.effect_api.specs.Laws.{part_within}
use Rattle.fx_time.specs.Laws.{strength_between}
use Rattle.fx_time.proofs.params.strength_at.Goals as goal

pub amount-requires-clause-range : goal.amount-requires-clause-range
amount-requires-clause-range c = strength_between (use_of c.args.fx.now) c.args.at.base.ticks c.args.tick.0 c.requires.fits

pub returns-clause-part : goal.returns-clause-part
returns-clause-part c =
    subst (λ (n : ℕ). n ≤ 10000) (sym c.amount.ensures) (part_within _ 10000 (strength_between (use_of c.args.fx.now) c.args.at.base.ticks c.args.tick.0 c.requires.fits).1)
