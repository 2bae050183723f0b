use Rattle.std.proofs.Common.{rules, ◌≡◌, length, refl, sym, subst, ap, ◌∙◌, List, arith, w32}
use Rattle.std.specs.Int.RustNames.{FitsSigned}
use Rattle.std.proofs.lemmas.Int.{to_z-of_z}
use Rattle.geom_rect.specs.Rect.{width_of}
use Rattle.argb_pixel.specs.Pixel.{Argb}
use Rattle.argb_world.specs.Picture.{Picture, HasRow, StaysOffRow, row_of}
use Rattle.argb_world.proofs.Rows.{picture}
use Rattle.argb_world.proofs.Spans.{row_within, row_filled_still, set_row_is, set_row_beside}
use Rattle.argb_world.proofs.world.World.set_row.Goals as goal

pub write-requires : goal.write-requires
write-requires g c =
    let y_fits : FitsSigned w32 c.args.y = c.ranges.y in
    let left_fits : FitsSigned w32 c.self.inside.part.left = search rules in
    let is = simp to_z-of_z at c.place-start.ensures in
    let height : HasRow c.self.inside.part c.args.y = subst (λ (v : Picture). HasRow v.part c.args.y) (sym c.self.view_is) c.requires.height in
    let wide : length c.args.from.now ≡ width_of c.self.inside.part = subst (λ (v : Picture). length c.args.from.now ≡ width_of v.part) (sym c.self.view_is) c.requires.width in
    omega (arith, row_within c.self.inside.part c.args.y height, c.self.invariant.picture.filled)

pub invariant_of-self : goal.invariant_of-self
invariant_of-self g c =
    let y_fits : FitsSigned w32 c.args.y = c.ranges.y in
    let left_fits : FitsSigned w32 c.self.inside.part.left = search rules in
    let is = simp to_z-of_z at c.place-start.ensures in
    let height : HasRow c.self.inside.part c.args.y = subst (λ (v : Picture). HasRow v.part c.args.y) (sym c.self.view_is) c.requires.height in
    let wide : length c.args.from.now ≡ width_of c.self.inside.part = subst (λ (v : Picture). length c.args.from.now ≡ width_of v.part) (sym c.self.view_is) c.requires.width in
    record {
      depth = c.self.invariant.depth;
      picture = record {
        inside = c.self.invariant.picture.inside;
        bound = c.self.invariant.picture.bound;
        filled = ap length c.write.ensures.pixels ∙ row_filled_still c.self.inside.part c.self.inside.pixels.pixels c.args.from.now c.args.y c.place-start.result (length c.args.from.now) height c.self.invariant.picture.filled is refl wide;
      };
      wide = λ v h. c.write.ensures.width ∙ c.self.invariant.wide v h;
    }

pub returns-clause-row : goal.returns-clause-row
returns-clause-row g c =
    let y_fits : FitsSigned w32 c.args.y = c.ranges.y in
    let left_fits : FitsSigned w32 c.self.inside.part.left = search rules in
    let is = simp to_z-of_z at c.place-start.ensures in
    let height : HasRow c.self.inside.part c.args.y = subst (λ (v : Picture). HasRow v.part c.args.y) (sym c.self.view_is) c.requires.height in
    let wide : length c.args.from.now ≡ width_of c.self.inside.part = subst (λ (v : Picture). length c.args.from.now ≡ width_of v.part) (sym c.self.view_is) c.requires.width in
    ap (λ (l : List Argb). row_of (picture c.self.inside.extent c.self.inside.part l) c.args.y) c.write.ensures.pixels
    ∙ set_row_is c.self.inside.extent c.self.inside.part c.self.inside.pixels.pixels c.args.from.now c.args.y c.place-start.result (length c.args.from.now) height c.self.invariant.picture.filled is refl wide

pub returns-clause-others : goal.returns-clause-others
returns-clause-others g c =
    let y_fits : FitsSigned w32 c.args.y = c.ranges.y in
    let left_fits : FitsSigned w32 c.self.inside.part.left = search rules in
    let is = simp to_z-of_z at c.place-start.ensures in
    let height : HasRow c.self.inside.part c.args.y = subst (λ (v : Picture). HasRow v.part c.args.y) (sym c.self.view_is) c.requires.height in
    let wide : length c.args.from.now ≡ width_of c.self.inside.part = subst (λ (v : Picture). length c.args.from.now ≡ width_of v.part) (sym c.self.view_is) c.requires.width in
    rw (← c.self.view_is) (
    subst (λ (l : List Argb). StaysOffRow c.args.y (picture c.self.inside.extent c.self.inside.part c.self.inside.pixels.pixels) (picture c.self.inside.extent c.self.inside.part l)) (sym c.write.ensures.pixels)
    (set_row_beside c.self.inside.extent c.self.inside.part c.self.inside.pixels.pixels c.args.from.now c.args.y c.place-start.result (length c.args.from.now) height c.self.invariant.picture.filled is refl wide)
    )
