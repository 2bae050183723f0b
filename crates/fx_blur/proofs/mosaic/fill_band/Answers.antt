use Rattle.std.proofs.Common.{w32, sym, subst, arith}
use Rattle.std.specs.Int.RustNames.{FitsSigned}
use Rattle.std.proofs.lemmas.Int.{to_z-of_z}
use Rattle.geom_rect.specs.declared.rect.Rect.{Rect}
use Rattle.argb_world.specs.Picture.{HasRow}
use Rattle.fx_blur.proofs.mosaic.fill_band.Goals as goal

pub fill_blocks-requires : goal.fill_blocks-requires
fill_blocks-requires g c =
    let y_fits : FitsSigned w32 c.args.y = c.ranges.y in
    let start_fits : FitsSigned w32 c.args.start = c.ranges.start in
    let inside : HasRow c.args.input.now.extent c.args.y = subst (λ (r : Rect). HasRow r c.args.y) c.extent-extent.ensures ((simp to_z-of_z at c.has_row.ensures).0 c.if-has_row.true) in (
      omega arith,
      (
        omega arith,
        (
          c.requires.depth,
          (
            c.requires.some,
            (
              c.requires.few,
              (
                simp to_z-of_z c.requires.height,
                (
                  simp to_z-of_z inside,
                  (c.requires.bytes, (c.requires.room, simp to_z-of_z c.requires.there)),
                ),
              ),
            ),
          ),
        ),
      ),
    )

pub fill_clear-requires : goal.fill_clear-requires
fill_clear-requires g c =
    let y_fits : FitsSigned w32 c.args.y = c.ranges.y in
    let outside : HasRow c.args.input.now.extent c.args.y → ⊥ = λ h.
    absurd (let yes = (simp to_z-of_z at c.has_row.ensures).1 (subst (λ (r : Rect). HasRow r c.args.y) (sym c.extent-extent.ensures) h) in cc) in
    (omega arith, (omega arith, (simp to_z-of_z c.requires.height, simp to_z-of_z outside)))
