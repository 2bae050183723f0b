use Rattle.std.proofs.Common.{◌≡◌, ◌≤◌, ℤ, pos, ◌*ℤ◌, neg_ℤ, ◌≤ℤ◌, w32, w64, arith, sym, subst}
use Rattle.std.specs.Int.RustNames.{FitsSigned}
use Rattle.std.specs.Prelude.{unsigned_abs}
use Rattle.std.proofs.lemmas.Int.{to_z-of_z, fits_signed_from_abs}
use Rattle.fx_color.specs.Parts.{product_bound}
use Rattle.fx_color.proofs.scale_offset.product.Goals as goal

pub returns-clause-bound : goal.returns-clause-bound
returns-clause-bound c =
    let z_fits : FitsSigned w32 c.args.z = c.ranges.z in
    let r : ℤ = c.exact_product.result in
    let e : r ≡ pos c.args.c *ℤ c.args.z = simp to_z-of_z at c.exact_product.ensures in
    let low : neg_ℤ (pos 40000) ≤ℤ c.args.z = c.requires.low in
    let high : c.args.z ≤ℤ pos 40000 = c.requires.high in
    let b : unsigned_abs r ≤ 1310720000 = subst (λ (v : ℤ). unsigned_abs v ≤ 1310720000) (sym e) (product_bound c.args.c c.args.z c.requires.channel low high) in
    let fits : FitsSigned w64 r = fits_signed_from_abs w64 r (omega (arith, b)) in
    subst (λ (v : ℤ). unsigned_abs v ≤ 1310720000) (sym (to_z-of_z w64 r fits)) b
