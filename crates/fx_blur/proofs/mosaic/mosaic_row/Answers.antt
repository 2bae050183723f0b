use Rattle.std.proofs.Common.{◌≡◌, ℤ, ◌≤ℤ◌, ◌<ℤ◌, w32, sym, subst, ap, ◌∙◌, arith, rules, length}
use Rattle.std.specs.Int.RustNames.{FitsSigned}
use Rattle.std.proofs.lemmas.Int.{to_z-of_z}
use Rattle.geom_rect.specs.declared.rect.Rect.{Rect}
use Rattle.geom_rect.specs.Rect.{Has, width_of}
use Rattle.argb_world.specs.Picture.{HasRow, row_of}
use Rattle.comp_stack.specs.Layers.{plane_of}
use Rattle.fx_blur.specs.Mosaic.{mosaic_at}
use Rattle.fx_blur.specs.Columns.{HasBlock, ServesBand}
use Rattle.fx_blur.proofs.Drawn.{served_shown}
use Rattle.fx_blur.proofs.mosaic.mosaic_row.Goals as goal

pub serve-served-requires : goal.serve-served-requires
serve-served-requires g c =
    let y_fits : FitsSigned w32 c.args.y = c.ranges.y in
    let start_fits : FitsSigned w32 c.args.start = c.ranges.start in
    let low_fits : FitsSigned w32 c.args.band.low = search rules in
    let high_fits : FitsSigned w32 c.args.band.high = search rules in
    let part_is = c.part-part.ensures.value in
    let height : HasRow c.part-part.result c.args.y = subst (λ (r : Rect). HasRow r c.args.y) (sym part_is) c.requires.height in
    let there : (u : ℤ) → Has c.part-part.result u c.args.y → Has c.args.input.now.extent u c.args.y
    → HasBlock c.args.size c.args.input.now.extent.left c.args.input.now.extent.right c.args.start (length c.args.columns.now) u =
    subst (λ (r : Rect). (u : ℤ) → Has r u c.args.y → Has c.args.input.now.extent u c.args.y
    → HasBlock c.args.size c.args.input.now.extent.left c.args.input.now.extent.right c.args.start (length c.args.columns.now) u) (sym part_is) c.requires.there in
    let serves : ServesBand (mosaic_at c.args.size (plane_of c.args.input.now)) c.part-part.result.left c.args.band.low c.args.band.high c.args.into.now =
    subst (λ (r : Rect). ServesBand (mosaic_at c.args.size (plane_of c.args.input.now)) r.left c.args.band.low c.args.band.high c.args.into.now) (sym part_is) c.requires.serves in (
      omega arith,
      (
        omega arith,
        (
          c.requires.depth,
          (
            c.requires.some,
            (
              c.requires.few,
              (
                simp to_z-of_z height,
                (c.requires.bytes, (c.requires.room ∙ ap width_of (sym part_is), (simp to_z-of_z there, serves))),
              ),
            ),
          ),
        ),
      ),
    )

pub returns-clause-serves : goal.returns-clause-serves
returns-clause-serves g c =
    subst (λ (r : Rect). ServesBand (mosaic_at c.args.size (plane_of c.args.input.now)) r.left c.serve-served.result.low c.serve-served.result.high c.serve-served.new.into)
    c.part-part.ensures.value c.serve-served.ensures.serves

pub returns-clause-drawn : goal.returns-clause-drawn
returns-clause-drawn g c =
    let y_fits : FitsSigned w32 c.args.y = c.ranges.y in
    let set : row_of c.set_row.new.self c.args.y ≡ c.serve-served.new.into = simp to_z-of_z at c.set_row.ensures.row in
    let first : c.serve-served.result.low ≤ℤ c.args.y = simp to_z-of_z at c.serve-served.ensures.low in
    let last : c.args.y <ℤ c.serve-served.result.high = simp to_z-of_z at c.serve-served.ensures.high in
    served_shown (mosaic_at c.args.size (plane_of c.args.input.now)) c.set_row.new.self c.args.target.now.part c.serve-served.result.low c.serve-served.result.high c.args.y c.serve-served.new.into
    c.set_row.ensures.frame.1 set (c.serve-served.auto.into ∙ c.requires.room) (returns-clause-serves g c) first last

pub returns-clause-others : goal.returns-clause-others
returns-clause-others g c =
    let y_fits : FitsSigned w32 c.args.y = c.ranges.y in
    simp to_z-of_z at c.set_row.ensures.others
