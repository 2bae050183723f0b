use Rattle.std.proofs.Common.{rules, ◌≡◌, ℕ, ℤ, pos, ◌+ℤ◌, ◌-ℤ◌, ap, ap₂, ◌∙◌, w32, w64}
use Rattle.std.specs.Int.{int_rem_euclid}
use Rattle.std.specs.Int.RustNames.{FitsSigned}
use Rattle.std.proofs.lemmas.Int.{to_z-of_z}
use Rattle.geom_rect.specs.Rect.{count_between}
use Rattle.fx_spatial.proofs.offset.row_shown.Goals as goal

pub returns : goal.returns
returns c =
    let top_fits : FitsSigned w32 c.args.top = c.ranges.top in
    let bottom_fits : FitsSigned w32 c.args.bottom = c.ranges.bottom in
    let y_fits : FitsSigned w32 c.args.y = c.ranges.y in
    let dy_fits : FitsSigned w32 c.args.dy = c.ranges.dy in
    let from_fits : FitsSigned w64 c.from_low.result = search rules in
    let above_fits : FitsSigned w64 c.above.result = search rules in
    let from : c.from_low.result ≡ (c.args.y -ℤ c.args.dy) -ℤ c.args.top = simp to_z-of_z at c.from_low.ensures in
    let count : c.count.result ≡ count_between c.args.top c.args.bottom = simp to_z-of_z at c.count.ensures in
    let rest : pos c.remainder.result ≡ int_rem_euclid c.from_low.result (pos c.count.result) = simp to_z-of_z at c.remainder.ensures.value in
    let shown : c.above.result ≡ c.args.top +ℤ pos c.remainder.result = simp to_z-of_z at c.above.ensures in
    to_z-of_z w64 c.above.result above_fits ∙ shown
    ∙ ap (λ (z : ℤ). c.args.top +ℤ z) (rest ∙ ap₂ (λ (z : ℤ) (n : ℕ). int_rem_euclid z (pos n)) from count)
