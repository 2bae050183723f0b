use Rattle.std.proofs.Common.{◌*ℤ◌, pos, FitsSigned, w32, arith, rules}
use Rattle.std.proofs.lemmas.Int.{ints}
use Rattle.rational_time.proofs.Numbers.{wide_product, ordered}
use Rattle.rational_time.proofs.time.compare.Goals as goal

pub returns : goal.returns
returns c =
    let first : FitsSigned w32 c.args.a.value = search rules in
    let second : FitsSigned w32 c.args.b.value = search rules in
    ordered _ (c.args.a.value *ℤ pos c.args.b.scale) (c.args.b.value *ℤ pos c.args.a.scale) _ _
    (wide_product c.args.a.value c.args.b.scale c.from.result c.from-2.result (omega (arith, ints)) c.from-2.ensures (omega (arith, ints)) (omega arith))
    (wide_product c.args.b.value c.args.a.scale c.from-3.result c.from-4.result (omega (arith, ints)) c.from-4.ensures (omega (arith, ints)) (omega arith))
    c.cmp.ensures
