use Rattle.std.proofs.Common.{◌≡◌, ◌*◌, ℤ, pos, ◌+ℤ◌, sym, subst, ap, ◌∙◌, refl, arith, rules, w32, length}
use Rattle.std.specs.Int.RustNames.{FitsSigned}
use Rattle.std.proofs.lemmas.Int.{ints, to_z-of_z}
use Rattle.geom_rect.specs.declared.rect.Rect.{Rect}
use Rattle.geom_rect.specs.Rect.{Has, count_between, width_of}
use Rattle.argb_pixel.specs.Packed.{pixel_size}
use Rattle.argb_world.specs.Picture.{HasRow, at}
use Rattle.comp_stack.specs.Layers.{plane_of}
use Rattle.fx_color.proofs.RowsDrawn.{row_there, row_more, rows_init, rows_all}
use Rattle.fx_blur.specs.Mosaic.{mosaic_at}
use Rattle.fx_blur.specs.Columns.{HasBlock, ServesBand}
use Rattle.fx_blur.proofs.mosaic.mosaic_rows.Goals as goal

pub rows-init : goal.rows-init
rows-init g c = record {
  frame = (refl, refl);
  so_far = rows_init (mosaic_at c.args.size (plane_of c.args.input.now)) c.args.target.now.part c.args.target.now;
  serves = λ y first last. absurd (omega (arith, ints, first, last));
  long = refl;
  bytes = refl;
  pixels = refl;
}

pub mosaic_row-band-requires : goal.mosaic_row-band-requires
mosaic_row-band-requires g c =
    let start_fits : FitsSigned w32 c.args.start = c.ranges.start in
    let top_fits : FitsSigned w32 c.part-part.result.top = search rules in
    let bottom_fits : FitsSigned w32 c.part-part.result.bottom = search rules in
    let counted = simp to_z-of_z at c.count-k-end.ensures in
    let height : c.count-k-end.result ≡ count_between c.args.target.now.part.top c.args.target.now.part.bottom = counted ∙ ap (λ (r : Rect). count_between r.top r.bottom) c.part-part.ensures.value in
    let y_fits : FitsSigned w32 c.number_at-y.result = search rules in
    let placed = simp to_z-of_z at c.number_at-y.ensures in
    let y_is : c.number_at-y.result ≡ c.args.target.now.part.top +ℤ pos c.rows.k = placed ∙ ap (λ (r : Rect). r.top +ℤ pos c.rows.k) c.part-part.ensures.value in
    let part_is = c.rows.invariant.frame.1 in
    let there : HasRow c.rows.target.part c.number_at-y.result = subst (λ (r : Rect). HasRow r c.number_at-y.result) (sym part_is) (row_there c.args.target.now.part c.number_at-y.result c.rows.k y_is (omega (arith, height, c.rows-test.true))) in
    let bytes : length c.rows.row ≡ pixel_size g.row.MAX * length c.rows.columns = c.rows.invariant.bytes ∙ c.requires.bytes ∙ ap (λ n. pixel_size g.row.MAX * n) (sym c.rows.invariant.long) in
    let pixels : length c.rows.into ≡ width_of c.rows.target.part = c.rows.invariant.pixels ∙ c.requires.room ∙ ap width_of (sym part_is) in
    let blocks : (u : ℤ) → Has c.rows.target.part u c.number_at-y.result → Has c.args.input.now.extent u c.number_at-y.result
    → HasBlock c.args.size c.args.input.now.extent.left c.args.input.now.extent.right c.args.start (length c.rows.columns) u = λ u h k.
    subst (λ n. HasBlock c.args.size c.args.input.now.extent.left c.args.input.now.extent.right c.args.start n u) (sym c.rows.invariant.long)
    (c.requires.there u c.number_at-y.result (subst (λ (r : Rect). Has r u c.number_at-y.result) part_is h) k) in
    let serves : ServesBand (mosaic_at c.args.size (plane_of c.args.input.now)) c.rows.target.part.left c.rows.band.low c.rows.band.high c.rows.into =
    subst (λ (r : Rect). ServesBand (mosaic_at c.args.size (plane_of c.args.input.now)) r.left c.rows.band.low c.rows.band.high c.rows.into) (sym part_is) c.rows.invariant.serves in
    (omega arith, (omega arith, (c.requires.depth, (c.requires.some, (c.requires.few, (simp to_z-of_z there, (bytes, (pixels, (simp to_z-of_z blocks, serves)))))))))

pub rows-preserved : goal.rows-preserved
rows-preserved g c =
    let top_fits : FitsSigned w32 c.part-part.result.top = search rules in
    let y_fits : FitsSigned w32 c.number_at-y.result = search rules in
    let bottom_fits : FitsSigned w32 c.part-part.result.bottom = search rules in
    let placed = simp to_z-of_z at c.number_at-y.ensures in
    let y_is : c.number_at-y.result ≡ c.args.target.now.part.top +ℤ pos c.rows.k = placed ∙ ap (λ (r : Rect). r.top +ℤ pos c.rows.k) c.part-part.ensures.value in
    let part_is = c.rows.invariant.frame.1 in
    let row = simp to_z-of_z at c.mosaic_row-band.ensures.drawn in
    let beside = simp to_z-of_z at c.mosaic_row-band.ensures.others in
    let frame = c.mosaic_row-band.ensures.frame in
    let drawn : (x : ℤ) → Has c.args.target.now.part x c.number_at-y.result → at c.mosaic_row-band.new.target x c.number_at-y.result ≡ mosaic_at c.args.size (plane_of c.args.input.now) x c.number_at-y.result =
    subst (λ (r : Rect). (x : ℤ) → Has r x c.number_at-y.result → at c.mosaic_row-band.new.target x c.number_at-y.result ≡ mosaic_at c.args.size (plane_of c.args.input.now) x c.number_at-y.result) part_is row in
    record {
      frame = (frame.0 ∙ c.rows.invariant.frame.0, frame.1 ∙ part_is);
      so_far = row_more (mosaic_at c.args.size (plane_of c.args.input.now)) c.args.target.now.part c.number_at-y.result c.rows.k c.rows.target c.mosaic_row-band.new.target y_is c.rows.invariant.so_far drawn beside;
      serves = subst (λ (r : Rect). ServesBand (mosaic_at c.args.size (plane_of c.args.input.now)) r.left c.mosaic_row-band.result.low c.mosaic_row-band.result.high c.mosaic_row-band.new.into) part_is c.mosaic_row-band.ensures.serves;
      long = c.mosaic_row-band.auto.columns ∙ c.rows.invariant.long;
      bytes = c.mosaic_row-band.auto.row ∙ c.rows.invariant.bytes;
      pixels = c.mosaic_row-band.auto.into ∙ c.rows.invariant.pixels;
    }

pub returns-clause-drawn : goal.returns-clause-drawn
returns-clause-drawn g c =
    let top_fits : FitsSigned w32 c.part-part.result.top = search rules in
    let bottom_fits : FitsSigned w32 c.part-part.result.bottom = search rules in
    let counted = simp to_z-of_z at c.count-k-end.ensures in
    let height : c.count-k-end.result ≡ count_between c.args.target.now.part.top c.args.target.now.part.bottom = counted ∙ ap (λ (r : Rect). count_between r.top r.bottom) c.part-part.ensures.value in
    rows_all (mosaic_at c.args.size (plane_of c.args.input.now)) c.args.target.now.part c.rows.k c.rows.target c.rows.invariant.so_far (omega (arith, height, c.rows-test.false))
