use Rattle.std.proofs.Common.{arith}
use Rattle.std.proofs.lemmas.Int.{ints}
use Rattle.project_model.specs.Effects.{use_of}
use Rattle.fx_color.specs.Color.{shift_schema}
use Rattle.fx_color.specs.Laws.{number_within}
use Rattle.fx_color.proofs.params.shift_of.Goals as goal

pub amount-requires-clause-range : goal.amount-requires-clause-range
amount-requires-clause-range c =
    let h = number_within shift_schema (use_of c.args.fx.now) c.args.at 0 c.requires.fits in
    (omega (arith, ints, h.0), omega (arith, ints, h.1))

pub amount-requires-2-clause-range : goal.amount-requires-2-clause-range
amount-requires-2-clause-range c =
    let h = number_within shift_schema (use_of c.args.fx.now) c.args.at 1 c.requires.fits in
    (omega (arith, ints, h.0), omega (arith, ints, h.1))

pub amount-requires-3-clause-range : goal.amount-requires-3-clause-range
amount-requires-3-clause-range c =
    let h = number_within shift_schema (use_of c.args.fx.now) c.args.at 2 c.requires.fits in
    (omega (arith, ints, h.0), omega (arith, ints, h.1))
