use Rattle.project_model.specs.Effects.{use_of}
use Rattle.std.proofs.Common.{rules, ℤ, ap, ◌∙◌}
use mir.Syntax.{w128}
use Rattle.std.specs.Int.RustNames.{FitsSigned}
use Rattle.std.proofs.lemmas.Int.{to_z-of_z}
use Rattle.geom_rect.specs.Rect.{positive_part}
use Rattle.effect_api.specs.declared.moment.Want.{Want}
use Rattle.effect_api.specs.Fits.{value_of}
use Rattle.fx_time.specs.Ticks.{want_at}
use Rattle.fx_time.proofs.wants.strength_of.Goals as goal

pub returns-clause-value : goal.returns-clause-value
returns-clause-value c =
    let fits : FitsSigned w128 c.echo_tick.result = search rules in
    c.strength_at.ensures.value
    ∙ ap (λ (w : Want). positive_part (value_of c.args.at.base.ticks (use_of c.args.fx.now) 2 w.tick.0)) c.want_at-own.ensures
    ∙ ap (λ (z : ℤ). positive_part (value_of c.args.at.base.ticks (use_of c.args.fx.now) 2 (want_at c.args.at z).tick.0))
    (to_z-of_z w128 c.echo_tick.result fits ∙ c.echo_tick.ensures)
