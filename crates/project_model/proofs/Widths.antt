-- Products in a wider type are those of the numbers.
use Rattle.std.proofs.Common.{◌≡◌, ℕ, ◌-◌, ◌^◌, ◌<◌, ◌≤◌, ℤ, pos, ◌*ℤ◌, refl, ◌∙◌, ap, arith, lit<, to_z, of_z, w32, FitsSigned}
use Rattle.std.specs.Prelude.{unsigned_abs, int_le}
use Rattle.std.specs.Int.{w128}
use Rattle.std.proofs.lemmas.Int.{fits_signed_mul, fits_signed_from_abs, to_z-of_z}

pub compared : (x y begin end : ℤ) (k : ℕ) (count : ℤ) → begin ≡ x → end ≡ y → count ≡ pos k → unsigned_abs x ≤ 2 ^ 63 → unsigned_abs y ≤ 2 ^ 63 → k < 2 ^ 32 → int_le (to_z w128 (of_z w128 begin)) (to_z w128 (of_z w128 (to_z w128 (of_z w128 end) *ℤ to_z w128 (of_z w128 count)))) ≡ int_le x (y *ℤ pos k)
compared x y begin end k count e f g small low few =
    let fits_x = fits_signed_from_abs w128 x (omega (arith, small)) in
    let fits_y = fits_signed_from_abs w128 y (omega (arith, low)) in
    let fits_k = fits_signed_from_abs w128 (pos k) (omega (arith, few)) in
    let fits = fits_signed_mul w128 y (pos k) (2 ^ 63) (2 ^ 32 - 1) low (omega (arith, few)) (lit< tt) in
    rw (e, f, g, to_z-of_z w128 x fits_x, to_z-of_z w128 y fits_y, to_z-of_z w128 (pos k) fits_k, to_z-of_z w128 (y *ℤ pos k) fits) refl

-- what a call made of a number that was handed to it
pub handed_on : (v : ℤ) (k : ℕ) (r : ℤ) → FitsSigned w32 v → r ≡ to_z w32 (of_z w32 v) *ℤ pos k → r ≡ v *ℤ pos k
handed_on v k r fits e = e ∙ ap (λ (z : ℤ). z *ℤ pos k) (to_z-of_z w32 v fits)
