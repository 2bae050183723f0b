use Rattle.std.proofs.Common.{FitsSigned, w32, arith, rules}
use Rattle.std.proofs.lemmas.Int.{ints}
use Rattle.rational_time.proofs.Numbers.{wide_product}
use Rattle.project_model.proofs.breaks.product.Goals as goal

pub returns : goal.returns
returns c =
    let fits : FitsSigned w32 c.args.value = search rules in
    wide_product c.args.value c.args.count c.from.result c.from-2.result (omega (arith, ints)) c.from-2.ensures (omega (arith, ints)) (omega arith)
