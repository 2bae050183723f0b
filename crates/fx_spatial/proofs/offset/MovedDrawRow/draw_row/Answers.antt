use Rattle.std.proofs.Common.{rules, ◌≡◌, ℤ, pos, ◌+ℤ◌, ◌-ℤ◌, ◌≤ℤ◌, ◌<ℤ◌, ap, subst, sym, ◌∙◌, length, arith, w32, w64}
use Rattle.std.specs.Int.RustNames.{FitsSigned}
use Rattle.std.proofs.lemmas.Int.{ints, to_z-of_z}
use Rattle.geom_rect.specs.declared.rect.Rect.{Rect}
use Rattle.geom_rect.specs.Rect.{count_between, width_of}
use Rattle.argb_world.specs.Picture.{at}
use Rattle.fx_spatial.specs.Offset.{wrapped}
use Rattle.fx_spatial.proofs.Runs.{offset_shown, cleared_at, never_both}
use Rattle.fx_spatial.proofs.offset.MovedDrawRow.draw_row.Goals as goal

pub returns-then-has_row : goal.returns-then-has_row
returns-then-has_row g c =
    let s = c.args.self.now in
    let p = s.input.now in
    let e = c.extent-extent.result in
    let is : e ≡ p.extent = c.extent-extent.ensures in
    let n = length c.args.into.now in
    let x_fits : FitsSigned w32 c.args.x = c.ranges.x in
    let y_fits : FitsSigned w32 c.args.y = c.ranges.y in
    let dx_fits : FitsSigned w32 s.dx = search rules in
    let dy_fits : FitsSigned w32 s.dy = search rules in
    let top_fits : FitsSigned w32 e.top = search rules in
    let bottom_fits : FitsSigned w32 e.bottom = search rules in
    let row_fits : FitsSigned w64 c.row_shown-row.result = search rules in
    let row : c.row_shown-row.result ≡ wrapped e.top (count_between e.top e.bottom) (c.args.y -ℤ s.dy) = simp to_z-of_z at c.row_shown-row.ensures in
    let row_is = row ∙ ap (λ (r : Rect). wrapped r.top (count_between r.top r.bottom) (c.args.y -ℤ s.dy)) is in
    let there = (simp to_z-of_z at c.has_row.ensures.0) c.if-has_row.true in
    let inside = simp to_z-of_z at c.offset_row.ensures.inside in
    let beside = simp to_z-of_z at c.offset_row.ensures.beside in
    let long = c.clear_row.auto.into in
    let there_p : (p.extent.left <ℤ p.extent.right) × (p.extent.top ≤ℤ c.args.y) × (c.args.y <ℤ p.extent.bottom) =
    subst (λ (r : Rect). (r.left <ℤ r.right) × (r.top ≤ℤ c.args.y) × (c.args.y <ℤ r.bottom)) is there in
    offset_shown p s.dx s.dy c.args.x c.args.y n c.offset_row.new.into (c.offset_row.auto.into ∙ long)
    (λ k l h. inside k (omega (arith, l, long)) h.0 h.1 ∙ ap (λ (v : ℤ). at p (wrapped p.extent.left (width_of p.extent) ((c.args.x +ℤ pos k) -ℤ s.dx)) v) row_is)
    (λ k l out. beside k (omega (arith, l, long)) (λ h. out (h.0, h.1, there_p.1, there_p.2)) ∙ cleared_at n k c.clear_row.new.into c.clear_row.ensures l)

pub returns-else-has_row : goal.returns-else-has_row
returns-else-has_row g c =
    let s = c.args.self.now in
    let p = s.input.now in
    let e = c.extent-extent.result in
    let is : e ≡ p.extent = c.extent-extent.ensures in
    let n = length c.args.into.now in
    let y_fits : FitsSigned w32 c.args.y = c.ranges.y in
    let back = simp to_z-of_z at c.has_row.ensures.1 in
    offset_shown p s.dx s.dy c.args.x c.args.y n c.clear_row.new.into c.clear_row.auto.into
    (λ k l h. absurd (never_both c.has_row.result
    (back (subst (λ (r : Rect). (r.left <ℤ r.right) × (r.top ≤ℤ c.args.y) × (c.args.y <ℤ r.bottom)) (sym is) (omega (arith, ints, h.0, h.1), h.2, h.3))) c.if-has_row.false))
    (λ k l out. cleared_at n k c.clear_row.new.into c.clear_row.ensures l)
