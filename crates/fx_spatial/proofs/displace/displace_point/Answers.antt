use Rattle.std.proofs.Common.{rules, ◌≡◌, ℕ, ℤ, ◌+ℤ◌, Bool, true, if◌then◌else◌, ap, ap₂, sym, ◌∙◌, w32}
use Rattle.std.specs.Int.RustNames.{FitsSigned}
use Rattle.std.proofs.lemmas.Int.{to_z-of_z}
use Rattle.geom_rect.specs.declared.rect.Rect.{Rect}
use Rattle.geom_rect.specs.Rect.{has}
use Rattle.argb_pixel.specs.Pixel.{clear}
use Rattle.argb_world.specs.Picture.{at}
use Rattle.fx_spatial.specs.Displace.{moved}
use Rattle.fx_spatial.proofs.displace.displace_point.Goals as goal

pub returns-then-is_inside : goal.returns-then-is_inside
returns-then-is_inside g c =
    let rule = c.args.rule.now in
    let x_fits : FitsSigned w32 c.args.x = c.ranges.x in
    let y_fits : FitsSigned w32 c.args.y = c.ranges.y in
    let across_fits : FitsSigned w32 c.moved-across.result = search rules in
    let down_fits : FitsSigned w32 c.moved-down.result = search rules in
    let right_fits : FitsSigned w32 c.moved_by.result = search rules in
    let below_fits : FitsSigned w32 c.moved_by-then-is_inside.result = search rules in
    let inside = simp to_z-of_z at c.is_inside.ensures in
    let there : has rule.input.now.extent c.args.x c.args.y ≡ true = sym (inside ∙ ap (λ (r : Rect). has r c.args.x c.args.y) c.extent.ensures) ∙ c.if-is_inside.true in
    let max_x_fits : FitsSigned w32 rule.max_x = search rules in
    let max_y_fits : FitsSigned w32 rule.max_y = search rules in
    let across : c.moved-across.result ≡ moved g.row.MAX rule.max_x c.args.pixel.r c.args.pixel.a =
    (simp to_z-of_z at c.moved-across.ensures.value) ∙ ap₂ (λ (m a : ℕ). moved g.row.MAX rule.max_x m a) c.r.ensures.value c.a.ensures.value in
    let down : c.moved-down.result ≡ moved g.row.MAX rule.max_y c.args.pixel.g c.args.pixel.a =
    (simp to_z-of_z at c.moved-down.ensures.value) ∙ ap₂ (λ (m a : ℕ). moved g.row.MAX rule.max_y m a) c.g.ensures.value c.a-then-is_inside.ensures.value in
    let x_is : c.moved_by.result ≡ c.args.x +ℤ c.moved-across.result = simp to_z-of_z at c.moved_by.ensures in
    let y_is : c.moved_by-then-is_inside.result ≡ c.args.y +ℤ c.moved-down.result = simp to_z-of_z at c.moved_by-then-is_inside.ensures in
    let shown : c.at.result ≡ at rule.input.now c.moved_by.result c.moved_by-then-is_inside.result = simp to_z-of_z at c.at.ensures in
    shown
    ∙ ap₂ (at rule.input.now) (x_is ∙ ap (λ (z : ℤ). c.args.x +ℤ z) across) (y_is ∙ ap (λ (z : ℤ). c.args.y +ℤ z) down)
    ∙ ap (λ (b : Bool). if b then at rule.input.now (c.args.x +ℤ moved g.row.MAX rule.max_x c.args.pixel.r c.args.pixel.a) (c.args.y +ℤ moved g.row.MAX rule.max_y c.args.pixel.g c.args.pixel.a) else clear) (sym there)
