use Rattle.std.proofs.Common.{rules, ◌≡◌, length, sym, subst, ◌∙◌, arith, w32}
use Rattle.std.specs.Int.RustNames.{FitsSigned}
use Rattle.std.proofs.lemmas.Int.{to_z-of_z}
use Rattle.geom_rect.specs.Rect.{width_of}
use Rattle.argb_world.specs.Picture.{Picture, HasRow}
use Rattle.argb_world.proofs.Spans.{row_within, row_is_between, whole_in_row}
use Rattle.argb_world.proofs.world.World.row.Goals as goal

pub read-requires : goal.read-requires
read-requires g c =
    let y_fits : FitsSigned w32 c.args.y = c.ranges.y in
    let left_fits : FitsSigned w32 c.self.inside.part.left = search rules in
    let is = simp to_z-of_z at c.place-start.ensures in
    let height : HasRow c.self.inside.part c.args.y = subst (λ (v : Picture). HasRow v.part c.args.y) (sym c.self.view_is) c.requires.height in
    let wide : length c.args.into.now ≡ width_of c.self.inside.part = subst (λ (v : Picture). length c.args.into.now ≡ width_of v.part) (sym c.self.view_is) c.requires.width in (
      omega arith,
      (
        omega arith,
        (
          whole_in_row c.self.inside.part c.args.y c.self.inside.pixels.width c.place-start.result (length c.args.into.now) c.self.invariant.wide height is wide,
          omega (arith, row_within c.self.inside.part c.args.y height, is, wide, c.self.invariant.picture.filled),
        ),
      ),
    )

pub returns : goal.returns
returns g c =
    let y_fits : FitsSigned w32 c.args.y = c.ranges.y in
    let left_fits : FitsSigned w32 c.self.inside.part.left = search rules in
    let is = simp to_z-of_z at c.place-start.ensures in
    let height : HasRow c.self.inside.part c.args.y = subst (λ (v : Picture). HasRow v.part c.args.y) (sym c.self.view_is) c.requires.height in
    let wide : length c.args.into.now ≡ width_of c.self.inside.part = subst (λ (v : Picture). length c.args.into.now ≡ width_of v.part) (sym c.self.view_is) c.requires.width in
    rw (← c.self.view_is) (
    c.read.ensures
    ∙ row_is_between c.self.inside.extent c.self.inside.part c.self.inside.pixels.pixels c.args.y c.place-start.result (length c.args.into.now) height c.self.invariant.picture.filled is wide
    )
