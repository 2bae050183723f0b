use Rattle.std.proofs.Common.{◌≡◌, ℕ, pos, ◌+ℤ◌, ◌+◌, ◌-◌, ◌*◌, ◌<◌, ◌≤◌, ◌↔◌, length, sym, subst, ◌∙◌, arith, w64}
use Rattle.std.specs.Int.RustNames.{FitsSigned}
use Rattle.std.proofs.lemmas.Int.{to_z-of_z}
use Rattle.geom_rect.specs.Rect.{Has}
use Rattle.argb_pixel.specs.Packed.{pixel_size, pixels_of}
use Rattle.std.proofs.Math.Nat.{mul-le-mul_left}
use Rattle.argb_world.specs.Picture.{Picture}
use Rattle.argb_world.proofs.Spans.{middle_within, middle_span, span_in_row, span_parts, span_beyond}
use Rattle.argb_world.proofs.world.World.read_packed_part.Goals as goal

pub place_along-from-requires : goal.place_along-from-requires
place_along-from-requires g c =
    let x_fits : FitsSigned w64 c.args.x = c.ranges.x in
    let y_fits : FitsSigned w64 c.args.y = c.ranges.y in
    let raw = simp to_z-of_z at c.covered-start.ensures.inside in
    let inside : (k : ℕ) → k < c.args.count → (Has c.self.inside.part (c.args.x +ℤ pos k) c.args.y ↔ ((c.covered-start.result.0 ≤ k) × (k < c.covered-start.result.1))) =
    subst (λ (v : Picture). (k : ℕ) → k < c.args.count → (Has v.part (c.args.x +ℤ pos k) c.args.y ↔ ((c.covered-start.result.0 ≤ k) × (k < c.covered-start.result.1)))) (sym c.self.view_is) raw in
    let fits = c.covered-start.ensures.within in
    simp to_z-of_z (
    record { reach = c.requires.reach; there = (inside c.covered-start.result.0 (omega (arith, c.if-start-end.true, fits))).1 (omega arith, c.if-start-end.true); bound = c.self.invariant.picture.bound }
    )

pub read_packed_middle-requires : goal.read_packed_middle-requires
read_packed_middle-requires g c =
    let x_fits : FitsSigned w64 c.args.x = c.ranges.x in
    let y_fits : FitsSigned w64 c.args.y = c.ranges.y in
    let raw = simp to_z-of_z at c.covered-start.ensures.inside in
    let inside : (k : ℕ) → k < c.args.count → (Has c.self.inside.part (c.args.x +ℤ pos k) c.args.y ↔ ((c.covered-start.result.0 ≤ k) × (k < c.covered-start.result.1))) =
    subst (λ (v : Picture). (k : ℕ) → k < c.args.count → (Has v.part (c.args.x +ℤ pos k) c.args.y ↔ ((c.covered-start.result.0 ≤ k) × (k < c.covered-start.result.1)))) (sym c.self.view_is) raw in
    let fits = c.covered-start.ensures.within in
    let clean = c.clear_packed.ensures.pixels in
    let long : length c.clear_packed.new.into ≡ pixel_size g.row.MAX * c.args.count = c.clear_packed.ensures.long ∙ c.requires.long in
    let few = mul-le-mul_left {m = c.covered-start.result.0 + (c.covered-start.result.1 - c.covered-start.result.0)} {n = c.args.count} (pixel_size g.row.MAX) (omega (arith, fits, c.if-start-end.true)) in
    let is = simp to_z-of_z at c.place_along-from.ensures in
    let within = middle_within c.self.inside.part c.args.x c.args.y c.args.count c.covered-start.result.0 c.covered-start.result.1 c.if-start-end.true fits inside in
    let row = span_in_row c.self.inside.part (c.args.x +ℤ pos c.covered-start.result.0) c.args.y c.self.inside.pixels.width c.place_along-from.result (c.covered-start.result.1 - c.covered-start.result.0) c.self.invariant.wide
    (middle_span c.self.inside.part c.args.x c.args.y c.args.count c.covered-start.result.0 c.covered-start.result.1 c.if-start-end.true fits inside) is in
    (omega arith, (c.self.invariant.depth, (omega (arith, long, few), (row, (omega (arith, within, is, c.self.invariant.picture.filled), c.clear_packed.ensures.packed)))))

pub returns-then-start-end-clause-pixels : goal.returns-then-start-end-clause-pixels
returns-then-start-end-clause-pixels g c =
    let x_fits : FitsSigned w64 c.args.x = c.ranges.x in
    let y_fits : FitsSigned w64 c.args.y = c.ranges.y in
    let raw = simp to_z-of_z at c.covered-start.ensures.inside in
    let inside : (k : ℕ) → k < c.args.count → (Has c.self.inside.part (c.args.x +ℤ pos k) c.args.y ↔ ((c.covered-start.result.0 ≤ k) × (k < c.covered-start.result.1))) =
    subst (λ (v : Picture). (k : ℕ) → k < c.args.count → (Has v.part (c.args.x +ℤ pos k) c.args.y ↔ ((c.covered-start.result.0 ≤ k) × (k < c.covered-start.result.1)))) (sym c.self.view_is) raw in
    let fits = c.covered-start.ensures.within in
    let clean = c.clear_packed.ensures.pixels in
    let is = simp to_z-of_z at c.place_along-from.ensures in
    let within = middle_within c.self.inside.part c.args.x c.args.y c.args.count c.covered-start.result.0 c.covered-start.result.1 c.if-start-end.true fits inside in
    rw (← c.self.view_is) (
    span_parts c.self.inside.extent c.self.inside.part c.self.inside.pixels.pixels c.args.x c.args.y c.args.count c.covered-start.result.0 c.covered-start.result.1 c.place_along-from.result (pixels_of g.row.MAX c.clear_packed.new.into) (pixels_of g.row.MAX c.read_packed_middle.new.into)
    c.self.invariant.picture.filled clean c.if-start-end.true fits inside is (omega (arith, within, is, c.self.invariant.picture.filled)) c.read_packed_middle.ensures.pixels
    )

pub returns-else-start-end-clause-pixels : goal.returns-else-start-end-clause-pixels
returns-else-start-end-clause-pixels g c =
    let x_fits : FitsSigned w64 c.args.x = c.ranges.x in
    let y_fits : FitsSigned w64 c.args.y = c.ranges.y in
    let raw = simp to_z-of_z at c.covered-start.ensures.inside in
    let inside : (k : ℕ) → k < c.args.count → (Has c.self.inside.part (c.args.x +ℤ pos k) c.args.y ↔ ((c.covered-start.result.0 ≤ k) × (k < c.covered-start.result.1))) =
    subst (λ (v : Picture). (k : ℕ) → k < c.args.count → (Has v.part (c.args.x +ℤ pos k) c.args.y ↔ ((c.covered-start.result.0 ≤ k) × (k < c.covered-start.result.1)))) (sym c.self.view_is) raw in
    let fits = c.covered-start.ensures.within in
    let clean = c.clear_packed.ensures.pixels in
    rw (← c.self.view_is) (
    span_beyond c.self.inside.extent c.self.inside.part c.self.inside.pixels.pixels c.args.x c.args.y c.args.count c.covered-start.result.0 c.covered-start.result.1 (pixels_of g.row.MAX c.clear_packed.new.into) clean c.if-start-end.false inside
    )
