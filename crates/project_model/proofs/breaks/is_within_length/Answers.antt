use Rattle.std.proofs.Common.{◌∙◌, ap, ℤ, pos, ◌*ℤ◌, FitsSigned, w64, arith, rules}
use Rattle.std.specs.Prelude.{int_le}
use Rattle.std.proofs.lemmas.Int.{ints}
use Rattle.project_model.proofs.Widths.{compared, handed_on}
use Rattle.project_model.proofs.breaks.is_within_length.Goals as goal

pub returns : goal.returns
returns c =
    let first : FitsSigned w64 c.product.result = search rules in
    let second : FitsSigned w64 c.product-2.result = search rules in
    compared c.product.result c.product-2.result c.from-begin.result c.from.result c.args.time.scale c.from-2.result
    (omega (arith, ints)) (omega (arith, ints)) c.from-2.ensures (omega (arith, ints)) (omega (arith, ints)) (omega arith)
    ∙ ap (λ (z : ℤ). int_le z (c.product-2.result *ℤ pos c.args.time.scale)) (handed_on c.args.time.value _ _ (search rules) c.product.ensures)
    ∙ ap (λ (z : ℤ). int_le (c.args.time.value *ℤ pos c.args.comp.now.frame.scale) (z *ℤ pos c.args.time.scale)) (handed_on c.args.comp.now.frame.value _ _ (search rules) c.product-2.ensures)
