use Rattle.std.proofs.Common.{FitsSigned, w32, arith, rules}
use Rattle.std.proofs.lemmas.Int.{ints}
use Rattle.rational_time.proofs.Numbers.{wide_product}
use Rattle.rational_time.proofs.time.comes_before.Goals as goal

pub returns : goal.returns
returns c =
    let first : FitsSigned w32 c.args.a.value = search rules in
    let second : FitsSigned w32 c.args.b.value = search rules in
    let left = wide_product c.args.a.value c.args.b.scale c.from.result c.from-2.result (omega (arith, ints)) c.from-2.ensures (omega (arith, ints)) (omega arith) in
    let right = wide_product c.args.b.value c.args.a.scale c.from-3.result c.from-4.result (omega (arith, ints)) c.from-4.ensures (omega (arith, ints)) (omega arith) in
    cc (left, right)
