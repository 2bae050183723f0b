use Rattle.std.proofs.Common.{◌≡◌, ap, length, ◌*◌, ℕ, pos, ◌+ℤ◌, ◌-◌, ◌∙◌, ◌<◌, ◌≤◌, ◌↔◌, sym, subst, arith, w64}
use Rattle.std.specs.Int.RustNames.{FitsSigned}
use Rattle.std.proofs.lemmas.Int.{to_z-of_z}
use Rattle.geom_rect.specs.Rect.{Has}
use Rattle.argb_world.specs.Picture.{Picture}
use Rattle.argb_world.specs.Kept.{IsInRow}
use Rattle.argb_pixel.specs.Packed.{pixel_size}
use Rattle.argb_world.proofs.Rows.{picture}
use Rattle.argb_world.proofs.Spans.{middle_within, middle_span, span_in_row, lent_is, length_span}
use Rattle.argb_world.proofs.world.World.packed_span.Goals as goal

pub place_along-requires-clause-there : goal.place_along-requires-clause-there
place_along-requires-clause-there g c =
    let x_fits : FitsSigned w64 c.args.x = c.ranges.x in
    let y_fits : FitsSigned w64 c.args.y = c.ranges.y in
    let raw = simp to_z-of_z at c.covered-start.ensures.inside in
    let inside : (k : ℕ) → k < c.args.count → (Has c.self.inside.part (c.args.x +ℤ pos k) c.args.y ↔ ((c.covered-start.result.0 ≤ k) × (k < c.covered-start.result.1))) =
    subst (λ (v : Picture). (k : ℕ) → k < c.args.count → (Has v.part (c.args.x +ℤ pos k) c.args.y ↔ ((c.covered-start.result.0 ≤ k) × (k < c.covered-start.result.1)))) (sym c.self.view_is) raw in
    simp to_z-of_z ((inside c.covered-start.result.0 (omega (arith, c.if-start-end.true, c.covered-start.ensures.within))).1 (omega arith, c.if-start-end.true))

pub lend-requires : goal.lend-requires
lend-requires g c =
    let x_fits : FitsSigned w64 c.args.x = c.ranges.x in
    let y_fits : FitsSigned w64 c.args.y = c.ranges.y in
    let raw = simp to_z-of_z at c.covered-start.ensures.inside in
    let inside : (k : ℕ) → k < c.args.count → (Has c.self.inside.part (c.args.x +ℤ pos k) c.args.y ↔ ((c.covered-start.result.0 ≤ k) × (k < c.covered-start.result.1))) =
    subst (λ (v : Picture). (k : ℕ) → k < c.args.count → (Has v.part (c.args.x +ℤ pos k) c.args.y ↔ ((c.covered-start.result.0 ≤ k) × (k < c.covered-start.result.1)))) (sym c.self.view_is) raw in
    let is = simp to_z-of_z at c.place_along.ensures in
    let within = middle_within c.self.inside.part c.args.x c.args.y c.args.count c.covered-start.result.0 c.covered-start.result.1 c.if-start-end.true c.covered-start.ensures.within inside in
    let row = span_in_row c.self.inside.part (c.args.x +ℤ pos c.covered-start.result.0) c.args.y c.self.inside.pixels.width c.place_along.result (c.covered-start.result.1 - c.covered-start.result.0) c.self.invariant.wide
    (middle_span c.self.inside.part c.args.x c.args.y c.args.count c.covered-start.result.0 c.covered-start.result.1 c.if-start-end.true c.covered-start.ensures.within inside) is in
    let all : c.covered-start.result.1 - c.covered-start.result.0 ≡ c.args.count = omega (arith, c.if-start-eq0.true, c.if-end-count.true) in
    (omega arith, (subst (λ (n : ℕ). IsInRow c.self.inside.pixels.width c.place_along.result n) all row, omega (arith, within, is, c.if-start-eq0.true, c.if-end-count.true, c.self.invariant.picture.filled)))

pub returns-then-start-end-clause-pixels : goal.returns-then-start-end-clause-pixels
returns-then-start-end-clause-pixels g c =
    let x_fits : FitsSigned w64 c.args.x = c.ranges.x in
    let y_fits : FitsSigned w64 c.args.y = c.ranges.y in
    let raw = simp to_z-of_z at c.covered-start.ensures.inside in
    let inside : (k : ℕ) → k < c.args.count → (Has c.self.inside.part (c.args.x +ℤ pos k) c.args.y ↔ ((c.covered-start.result.0 ≤ k) × (k < c.covered-start.result.1))) =
    subst (λ (v : Picture). (k : ℕ) → k < c.args.count → (Has v.part (c.args.x +ℤ pos k) c.args.y ↔ ((c.covered-start.result.0 ≤ k) × (k < c.covered-start.result.1)))) (sym c.self.view_is) raw in
    let is = simp to_z-of_z at c.place_along.ensures in
    rw (← c.self.view_is) (
    c.lend.ensures.pixels
    ∙ lent_is c.self.inside.extent c.self.inside.part c.self.inside.pixels.pixels c.args.x c.args.y c.args.count c.covered-start.result.0 c.covered-start.result.1 c.place_along.result
    c.self.invariant.picture.filled c.if-start-eq0.true c.if-end-count.true c.if-start-end.true inside is
    )

pub returns-then-start-end-clause-long : goal.returns-then-start-end-clause-long
returns-then-start-end-clause-long g c =
    let x_fits : FitsSigned w64 c.args.x = c.ranges.x in
    let y_fits : FitsSigned w64 c.args.y = c.ranges.y in
    let raw = simp to_z-of_z at c.covered-start.ensures.inside in
    let inside : (k : ℕ) → k < c.args.count → (Has c.self.inside.part (c.args.x +ℤ pos k) c.args.y ↔ ((c.covered-start.result.0 ≤ k) × (k < c.covered-start.result.1))) =
    subst (λ (v : Picture). (k : ℕ) → k < c.args.count → (Has v.part (c.args.x +ℤ pos k) c.args.y ↔ ((c.covered-start.result.0 ≤ k) × (k < c.covered-start.result.1)))) (sym c.self.view_is) raw in
    let is = simp to_z-of_z at c.place_along.ensures in
    let made = c.lend.ensures.pixels
    ∙ lent_is c.self.inside.extent c.self.inside.part c.self.inside.pixels.pixels c.args.x c.args.y c.args.count c.covered-start.result.0 c.covered-start.result.1 c.place_along.result
    c.self.invariant.picture.filled c.if-start-eq0.true c.if-end-count.true c.if-start-end.true inside is in
    c.lend.ensures.packed.whole
    ∙ ap (λ n. pixel_size g.row.MAX * n) (ap length made ∙ length_span (picture c.self.inside.extent c.self.inside.part c.self.inside.pixels.pixels) c.args.x c.args.y c.args.count)
