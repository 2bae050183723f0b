use Rattle.std.proofs.Common.{rules, ◌≡◌, ◌*◌, length, sym, subst, ap, ◌∙◌, List, arith, w32}
use Rattle.std.specs.Int.RustNames.{FitsSigned}
use Rattle.std.proofs.lemmas.Int.{to_z-of_z}
use Rattle.geom_rect.specs.Rect.{width_of}
use Rattle.argb_pixel.specs.Pixel.{Argb}
use Rattle.argb_world.specs.Picture.{Picture, HasRow, StaysOffRow, row_of}
use Rattle.argb_pixel.specs.Packed.{pixel_size, pixels_of}
use Rattle.argb_pixel.proofs.Parts.{pixels_length}
use Rattle.argb_world.proofs.Rows.{picture}
use Rattle.argb_world.proofs.Spans.{row_within, row_filled_still, set_row_is, set_row_beside}
use Rattle.argb_world.proofs.world.World.set_packed_row.Goals as goal

pub write_packed-requires : goal.write_packed-requires
write_packed-requires g c =
    let y_fits : FitsSigned w32 c.args.y = c.ranges.y in
    let left_fits : FitsSigned w32 c.self.inside.part.left = search rules in
    let is = simp to_z-of_z at c.place-start.ensures in
    let height : HasRow c.self.inside.part c.args.y = subst (λ (v : Picture). HasRow v.part c.args.y) (sym c.self.view_is) c.requires.height in
    let wide = c.width.ensures in
    let many : length c.args.bytes.now ≡ pixel_size g.row.MAX * c.width.result = subst (λ (v : Picture). length c.args.bytes.now ≡ pixel_size g.row.MAX * width_of v.part) (sym c.self.view_is) c.requires.width ∙ ap (λ w. pixel_size g.row.MAX * w) (sym wide) in
    let long = pixels_length g.row.MAX c.width.result c.args.bytes.now c.self.invariant.depth many in
    (omega arith, (omega (arith, row_within c.self.inside.part c.args.y height, is, wide, c.self.invariant.picture.filled), (many, c.requires.packed)))

pub invariant_of-self : goal.invariant_of-self
invariant_of-self g c =
    let y_fits : FitsSigned w32 c.args.y = c.ranges.y in
    let left_fits : FitsSigned w32 c.self.inside.part.left = search rules in
    let is = simp to_z-of_z at c.place-start.ensures in
    let height : HasRow c.self.inside.part c.args.y = subst (λ (v : Picture). HasRow v.part c.args.y) (sym c.self.view_is) c.requires.height in
    let wide = c.width.ensures in
    let many : length c.args.bytes.now ≡ pixel_size g.row.MAX * c.width.result = subst (λ (v : Picture). length c.args.bytes.now ≡ pixel_size g.row.MAX * width_of v.part) (sym c.self.view_is) c.requires.width ∙ ap (λ w. pixel_size g.row.MAX * w) (sym wide) in
    let long = pixels_length g.row.MAX c.width.result c.args.bytes.now c.self.invariant.depth many in
    record {
      depth = c.self.invariant.depth;
      picture = record {
        inside = c.self.invariant.picture.inside;
        bound = c.self.invariant.picture.bound;
        filled = ap length c.write_packed.ensures.pixels ∙ row_filled_still c.self.inside.part c.self.inside.pixels.pixels (pixels_of g.row.MAX c.args.bytes.now) c.args.y c.place-start.result c.width.result height c.self.invariant.picture.filled is long wide;
      };
      wide = λ v h. c.write_packed.ensures.width ∙ c.self.invariant.wide v h;
    }

pub returns-clause-row : goal.returns-clause-row
returns-clause-row g c =
    let y_fits : FitsSigned w32 c.args.y = c.ranges.y in
    let left_fits : FitsSigned w32 c.self.inside.part.left = search rules in
    let is = simp to_z-of_z at c.place-start.ensures in
    let height : HasRow c.self.inside.part c.args.y = subst (λ (v : Picture). HasRow v.part c.args.y) (sym c.self.view_is) c.requires.height in
    let wide = c.width.ensures in
    let many : length c.args.bytes.now ≡ pixel_size g.row.MAX * c.width.result = subst (λ (v : Picture). length c.args.bytes.now ≡ pixel_size g.row.MAX * width_of v.part) (sym c.self.view_is) c.requires.width ∙ ap (λ w. pixel_size g.row.MAX * w) (sym wide) in
    let long = pixels_length g.row.MAX c.width.result c.args.bytes.now c.self.invariant.depth many in
    ap (λ (l : List Argb). row_of (picture c.self.inside.extent c.self.inside.part l) c.args.y) c.write_packed.ensures.pixels
    ∙ set_row_is c.self.inside.extent c.self.inside.part c.self.inside.pixels.pixels (pixels_of g.row.MAX c.args.bytes.now) c.args.y c.place-start.result c.width.result height c.self.invariant.picture.filled is long wide

pub returns-clause-others : goal.returns-clause-others
returns-clause-others g c =
    let y_fits : FitsSigned w32 c.args.y = c.ranges.y in
    let left_fits : FitsSigned w32 c.self.inside.part.left = search rules in
    let is = simp to_z-of_z at c.place-start.ensures in
    let height : HasRow c.self.inside.part c.args.y = subst (λ (v : Picture). HasRow v.part c.args.y) (sym c.self.view_is) c.requires.height in
    let wide = c.width.ensures in
    let many : length c.args.bytes.now ≡ pixel_size g.row.MAX * c.width.result = subst (λ (v : Picture). length c.args.bytes.now ≡ pixel_size g.row.MAX * width_of v.part) (sym c.self.view_is) c.requires.width ∙ ap (λ w. pixel_size g.row.MAX * w) (sym wide) in
    let long = pixels_length g.row.MAX c.width.result c.args.bytes.now c.self.invariant.depth many in
    rw (← c.self.view_is) (
    subst (λ (l : List Argb). StaysOffRow c.args.y (picture c.self.inside.extent c.self.inside.part c.self.inside.pixels.pixels) (picture c.self.inside.extent c.self.inside.part l)) (sym c.write_packed.ensures.pixels)
    (set_row_beside c.self.inside.extent c.self.inside.part c.self.inside.pixels.pixels (pixels_of g.row.MAX c.args.bytes.now) c.args.y c.place-start.result c.width.result height c.self.invariant.picture.filled is long wide)
    )
