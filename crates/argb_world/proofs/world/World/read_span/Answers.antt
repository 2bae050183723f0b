use Rattle.std.proofs.Common.{◌≡◌, ℕ, pos, ◌+ℤ◌, ◌-◌, ◌<◌, ◌≤◌, ◌↔◌, length, replicate, ap, sym, subst, ◌∙◌, arith, w64}
use Rattle.std.specs.Int.RustNames.{FitsSigned}
use Rattle.std.proofs.lemmas.Int.{to_z-of_z}
use Rattle.std.proofs.lemmas.List.{length-replicate}
use Rattle.geom_rect.specs.Rect.{Has}
use Rattle.argb_pixel.specs.Pixel.{clear}
use Rattle.argb_world.specs.Picture.{Picture}
use Rattle.argb_world.proofs.Spans.{middle_within, middle_span, span_in_row, span_parts, span_beyond}
use Rattle.argb_world.proofs.world.World.read_span.Goals as goal

pub place_along-from-requires : goal.place_along-from-requires
place_along-from-requires g c =
    let x_fits : FitsSigned w64 c.args.x = c.ranges.x in
    let y_fits : FitsSigned w64 c.args.y = c.ranges.y in
    let raw = simp to_z-of_z at c.covered-start.ensures.inside in
    let inside : (k : ℕ) → k < length c.args.into.now → (Has c.self.inside.part (c.args.x +ℤ pos k) c.args.y ↔ ((c.covered-start.result.0 ≤ k) × (k < c.covered-start.result.1))) =
    subst (λ (v : Picture). (k : ℕ) → k < length c.args.into.now → (Has v.part (c.args.x +ℤ pos k) c.args.y ↔ ((c.covered-start.result.0 ≤ k) × (k < c.covered-start.result.1)))) (sym c.self.view_is) raw in
    let fits = c.covered-start.ensures.within in
    simp to_z-of_z (
    record { reach = c.requires; there = (inside c.covered-start.result.0 (omega (arith, c.if-start-end.true, fits))).1 (omega arith, c.if-start-end.true); bound = c.self.invariant.picture.bound }
    )

pub read_middle-requires : goal.read_middle-requires
read_middle-requires g c =
    let x_fits : FitsSigned w64 c.args.x = c.ranges.x in
    let y_fits : FitsSigned w64 c.args.y = c.ranges.y in
    let raw = simp to_z-of_z at c.covered-start.ensures.inside in
    let inside : (k : ℕ) → k < length c.args.into.now → (Has c.self.inside.part (c.args.x +ℤ pos k) c.args.y ↔ ((c.covered-start.result.0 ≤ k) × (k < c.covered-start.result.1))) =
    subst (λ (v : Picture). (k : ℕ) → k < length c.args.into.now → (Has v.part (c.args.x +ℤ pos k) c.args.y ↔ ((c.covered-start.result.0 ≤ k) × (k < c.covered-start.result.1)))) (sym c.self.view_is) raw in
    let fits = c.covered-start.ensures.within in
    let clean : c.fill_row.new.row ≡ replicate (length c.args.into.now) clear = c.fill_row.ensures ∙ ap (replicate (length c.args.into.now)) c.CLEAR.ensures in
    let long : length c.fill_row.new.row ≡ length c.args.into.now = ap length clean ∙ length-replicate (length c.args.into.now) clear in
    let is = simp to_z-of_z at c.place_along-from.ensures in
    let within = middle_within c.self.inside.part c.args.x c.args.y (length c.args.into.now) c.covered-start.result.0 c.covered-start.result.1 c.if-start-end.true fits inside in
    let row = span_in_row c.self.inside.part (c.args.x +ℤ pos c.covered-start.result.0) c.args.y c.self.inside.pixels.width c.place_along-from.result (c.covered-start.result.1 - c.covered-start.result.0) c.self.invariant.wide
    (middle_span c.self.inside.part c.args.x c.args.y (length c.args.into.now) c.covered-start.result.0 c.covered-start.result.1 c.if-start-end.true fits inside) is in
    (omega arith, (omega arith, (c.covered-start.ensures.order, (omega (arith, long, fits), (row, omega (arith, within, is, c.self.invariant.picture.filled))))))

pub returns-then-start-end : goal.returns-then-start-end
returns-then-start-end g c =
    let x_fits : FitsSigned w64 c.args.x = c.ranges.x in
    let y_fits : FitsSigned w64 c.args.y = c.ranges.y in
    let raw = simp to_z-of_z at c.covered-start.ensures.inside in
    let inside : (k : ℕ) → k < length c.args.into.now → (Has c.self.inside.part (c.args.x +ℤ pos k) c.args.y ↔ ((c.covered-start.result.0 ≤ k) × (k < c.covered-start.result.1))) =
    subst (λ (v : Picture). (k : ℕ) → k < length c.args.into.now → (Has v.part (c.args.x +ℤ pos k) c.args.y ↔ ((c.covered-start.result.0 ≤ k) × (k < c.covered-start.result.1)))) (sym c.self.view_is) raw in
    let fits = c.covered-start.ensures.within in
    let clean : c.fill_row.new.row ≡ replicate (length c.args.into.now) clear = c.fill_row.ensures ∙ ap (replicate (length c.args.into.now)) c.CLEAR.ensures in
    let is = simp to_z-of_z at c.place_along-from.ensures in
    let within = middle_within c.self.inside.part c.args.x c.args.y (length c.args.into.now) c.covered-start.result.0 c.covered-start.result.1 c.if-start-end.true fits inside in
    rw (← c.self.view_is) (
    span_parts c.self.inside.extent c.self.inside.part c.self.inside.pixels.pixels c.args.x c.args.y (length c.args.into.now) c.covered-start.result.0 c.covered-start.result.1 c.place_along-from.result c.fill_row.new.row c.read_middle.new.into
    c.self.invariant.picture.filled clean c.if-start-end.true fits inside is (omega (arith, within, is, c.self.invariant.picture.filled)) c.read_middle.ensures
    )

pub returns-else-start-end : goal.returns-else-start-end
returns-else-start-end g c =
    let x_fits : FitsSigned w64 c.args.x = c.ranges.x in
    let y_fits : FitsSigned w64 c.args.y = c.ranges.y in
    let raw = simp to_z-of_z at c.covered-start.ensures.inside in
    let inside : (k : ℕ) → k < length c.args.into.now → (Has c.self.inside.part (c.args.x +ℤ pos k) c.args.y ↔ ((c.covered-start.result.0 ≤ k) × (k < c.covered-start.result.1))) =
    subst (λ (v : Picture). (k : ℕ) → k < length c.args.into.now → (Has v.part (c.args.x +ℤ pos k) c.args.y ↔ ((c.covered-start.result.0 ≤ k) × (k < c.covered-start.result.1)))) (sym c.self.view_is) raw in
    let fits = c.covered-start.ensures.within in
    let clean : c.fill_row.new.row ≡ replicate (length c.args.into.now) clear = c.fill_row.ensures ∙ ap (replicate (length c.args.into.now)) c.CLEAR.ensures in
    rw (← c.self.view_is) (
    span_beyond c.self.inside.extent c.self.inside.part c.self.inside.pixels.pixels c.args.x c.args.y (length c.args.into.now) c.covered-start.result.0 c.covered-start.result.1 c.fill_row.new.row clean c.if-start-end.false inside
    )
