use Rattle.std.proofs.Common.{ℕ, ◌≤◌, arith, subst, sym}
use Rattle.std.proofs.lemmas.Int.{ints}
use Rattle.project_model.specs.Effects.{use_of}
use Rattle.fx_color.specs.Color.{tint_schema}
use Rattle.fx_color.specs.Laws.{number_within}
use Rattle.effect_api.specs.Laws.{part_within}
use Rattle.fx_color.proofs.params.tint_of.Goals as goal

pub ends-requires-clause-black : goal.ends-requires-clause-black
ends-requires-clause-black c =
    let h = number_within tint_schema (use_of c.args.fx.now) c.args.at 0 c.requires.fits in
    (omega (arith, ints, h.0), omega (arith, ints, h.1))

pub ends-requires-clause-white : goal.ends-requires-clause-white
ends-requires-clause-white c =
    let h = number_within tint_schema (use_of c.args.fx.now) c.args.at 3 c.requires.fits in
    (omega (arith, ints, h.0), omega (arith, ints, h.1))

pub ends-requires-2-clause-black : goal.ends-requires-2-clause-black
ends-requires-2-clause-black c =
    let h = number_within tint_schema (use_of c.args.fx.now) c.args.at 1 c.requires.fits in
    (omega (arith, ints, h.0), omega (arith, ints, h.1))

pub ends-requires-2-clause-white : goal.ends-requires-2-clause-white
ends-requires-2-clause-white c =
    let h = number_within tint_schema (use_of c.args.fx.now) c.args.at 4 c.requires.fits in
    (omega (arith, ints, h.0), omega (arith, ints, h.1))

pub ends-requires-3-clause-black : goal.ends-requires-3-clause-black
ends-requires-3-clause-black c =
    let h = number_within tint_schema (use_of c.args.fx.now) c.args.at 2 c.requires.fits in
    (omega (arith, ints, h.0), omega (arith, ints, h.1))

pub ends-requires-3-clause-white : goal.ends-requires-3-clause-white
ends-requires-3-clause-white c =
    let h = number_within tint_schema (use_of c.args.fx.now) c.args.at 5 c.requires.fits in
    (omega (arith, ints, h.0), omega (arith, ints, h.1))

pub amount-requires-clause-range : goal.amount-requires-clause-range
amount-requires-clause-range c =
    let h = number_within tint_schema (use_of c.args.fx.now) c.args.at 6 c.requires.fits in
    (omega (arith, ints, h.0), omega (arith, ints, h.1))

pub invariant_of-result : goal.invariant_of-result
invariant_of-result c =
    let h = number_within tint_schema (use_of c.args.fx.now) c.args.at 6 c.requires.fits in
    record { amount_in_range = subst (λ (n : ℕ). n ≤ 10000) (sym c.amount.ensures) (part_within _ 10000 h.1) }
