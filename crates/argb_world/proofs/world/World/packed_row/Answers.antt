use Rattle.std.proofs.Common.{rules, length, sym, subst, ap, ◌*◌, ◌∙◌, arith, w32}
use Rattle.std.specs.Int.RustNames.{FitsSigned}
use Rattle.std.proofs.lemmas.Int.{to_z-of_z}
use Rattle.geom_rect.specs.Rect.{width_of}
use Rattle.argb_world.specs.Picture.{Picture, HasRow}
use Rattle.argb_pixel.specs.Packed.{pixel_size}
use Rattle.argb_world.proofs.Rows.{picture}
use Rattle.argb_world.proofs.Spans.{row_within, row_is_between, whole_in_row, length_span}
use Rattle.argb_world.proofs.world.World.packed_row.Goals as goal

pub lend-requires : goal.lend-requires
lend-requires g c =
    let y_fits : FitsSigned w32 c.args.y = c.ranges.y in
    let left_fits : FitsSigned w32 c.self.inside.part.left = search rules in
    let is = simp to_z-of_z at c.place-start.ensures in
    let height : HasRow c.self.inside.part c.args.y = subst (λ (v : Picture). HasRow v.part c.args.y) (sym c.self.view_is) c.requires in
    let wide = c.width.ensures in (
      omega arith,
      (
        whole_in_row c.self.inside.part c.args.y c.self.inside.pixels.width c.place-start.result c.width.result c.self.invariant.wide height is wide,
        omega (arith, row_within c.self.inside.part c.args.y height, is, wide, c.self.invariant.picture.filled),
      ),
    )

pub returns-clause-pixels : goal.returns-clause-pixels
returns-clause-pixels g c =
    let y_fits : FitsSigned w32 c.args.y = c.ranges.y in
    let left_fits : FitsSigned w32 c.self.inside.part.left = search rules in
    let is = simp to_z-of_z at c.place-start.ensures in
    let height : HasRow c.self.inside.part c.args.y = subst (λ (v : Picture). HasRow v.part c.args.y) (sym c.self.view_is) c.requires in
    let wide = c.width.ensures in
    rw (← c.self.view_is) (
    c.lend.ensures.pixels
    ∙ row_is_between c.self.inside.extent c.self.inside.part c.self.inside.pixels.pixels c.args.y c.place-start.result c.width.result height c.self.invariant.picture.filled is wide
    )

pub returns-clause-long : goal.returns-clause-long
returns-clause-long g c =
    let y_fits : FitsSigned w32 c.args.y = c.ranges.y in
    let left_fits : FitsSigned w32 c.self.inside.part.left = search rules in
    let is = simp to_z-of_z at c.place-start.ensures in
    let height : HasRow c.self.inside.part c.args.y = subst (λ (v : Picture). HasRow v.part c.args.y) (sym c.self.view_is) c.requires in
    let wide = c.width.ensures in
    let made = c.lend.ensures.pixels ∙ row_is_between c.self.inside.extent c.self.inside.part c.self.inside.pixels.pixels c.args.y c.place-start.result c.width.result height c.self.invariant.picture.filled is wide in
    c.lend.ensures.packed.whole
    ∙ ap (λ n. pixel_size g.row.MAX * n) (ap length made ∙ length_span (picture c.self.inside.extent c.self.inside.part c.self.inside.pixels.pixels) c.self.inside.part.left c.args.y (width_of c.self.inside.part))
    ∙ ap (λ (v : Picture). pixel_size g.row.MAX * width_of v.part) c.self.view_is
