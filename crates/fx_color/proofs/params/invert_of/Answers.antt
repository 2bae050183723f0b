use Rattle.std.proofs.Common.{arith}
use Rattle.std.proofs.lemmas.Int.{ints}
use Rattle.project_model.specs.Effects.{use_of}
use Rattle.fx_color.specs.Color.{invert_schema}
use Rattle.fx_color.specs.Laws.{number_within}
use Rattle.fx_color.proofs.params.invert_of.Goals as goal

pub amount-requires-clause-range : goal.amount-requires-clause-range
amount-requires-clause-range c =
    let h = number_within invert_schema (use_of c.args.fx.now) c.args.at 0 c.requires.fits in
    (omega (arith, ints, h.0), omega (arith, ints, h.1))
