use Rattle.std.proofs.Common.{ℕ, ◌≤◌, arith, subst, sym}
use Rattle.std.proofs.lemmas.Int.{ints}
use Rattle.project_model.specs.Effects.{use_of}
use Rattle.fx_color.specs.Color.{threshold_schema}
use Rattle.fx_color.specs.Laws.{number_within}
use Rattle.effect_api.specs.Laws.{part_within}
use Rattle.fx_color.proofs.params.threshold_of.Goals as goal

pub amount-requires-clause-range : goal.amount-requires-clause-range
amount-requires-clause-range c =
    let h = number_within threshold_schema (use_of c.args.fx.now) c.args.at 0 c.requires.fits in
    (omega (arith, ints, h.0), omega (arith, ints, h.1))

pub invariant_of-result : goal.invariant_of-result
invariant_of-result c =
    let h = number_within threshold_schema (use_of c.args.fx.now) c.args.at 0 c.requires.fits in
    record { in_range = subst (λ (n : ℕ). n ≤ 10000) (sym c.amount.ensures) (part_within _ 10000 h.1) }
