use Rattle.std.proofs.Common.{arith}
use Rattle.std.proofs.lemmas.Int.{ints}
use Rattle.fx_spatial.proofs.offset.remainder.Goals as goal

pub returns-clause-within : goal.returns-clause-within
returns-clause-within c = omega (arith, ints, c.rem_euclid.ensures.upper_bound)
