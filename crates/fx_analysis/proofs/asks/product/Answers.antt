use Rattle.std.specs.Prelude.{unsigned_abs}
use Rattle.std.proofs.Common.{rules, ◌*◌, ◌≤◌, ℤ, pos, negsuc, ◌*ℤ◌, ◌∙◌, w64, sym, subst, arith}
use Rattle.std.specs.Int.{w128}
use Rattle.std.specs.Int.RustNames.{FitsSigned}
use Rattle.std.proofs.lemmas.Int.{ints, to_z-of_z, unsigned_abs-mul}
use Rattle.std.proofs.Math.Nat.{mul-le-mul}
use Rattle.fx_analysis.proofs.asks.product.Goals as goal

small : (z : ℤ) → FitsSigned w64 z → unsigned_abs z ≤ 9223372036854775808
small (pos n) fits = omega (arith, ints, fits.sfits)
small (negsuc n) fits = omega (arith, ints, fits.sfits)

bounded : (x y : ℤ) → FitsSigned w64 x → FitsSigned w64 y → unsigned_abs (x *ℤ y) ≤ 85070591730234615865843651857942052864
bounded x y first second =
    let product : unsigned_abs x * unsigned_abs y ≤ 9223372036854775808 * 9223372036854775808 = mul-le-mul (small x first) (small y second) in
    rw (unsigned_abs-mul x y) (omega (arith, product))

pub returns-clause-bound : goal.returns-clause-bound
returns-clause-bound c =
    let x_fits : FitsSigned w64 c.args.x = c.ranges.x in
    let y_fits : FitsSigned w64 c.args.y = c.ranges.y in
    let is = simp to_z-of_z at c.exact_product.ensures in
    let fits : FitsSigned w128 c.exact_product.result = search rules in
    subst (λ (z : ℤ). unsigned_abs z ≤ 85070591730234615865843651857942052864) (sym (to_z-of_z w128 c.exact_product.result fits ∙ is)) (bounded c.args.x c.args.y x_fits y_fits)
