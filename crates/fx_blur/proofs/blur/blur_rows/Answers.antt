use Rattle.std.proofs.Common.{◌≡◌, ◌+◌, ◌*◌, ℤ, pos, ◌+ℤ◌, ◌-ℤ◌, sym, subst, ap, ◌∙◌, refl, arith, rules, w32, w64, length}
use Rattle.std.specs.Int.RustNames.{FitsSigned}
use Rattle.std.proofs.lemmas.Int.{ints, to_z-of_z}
use Rattle.geom_rect.specs.declared.rect.Rect.{Rect}
use Rattle.geom_rect.specs.Rect.{Has, count_between, width_of}
use Rattle.argb_pixel.specs.Packed.{pixel_size}
use Rattle.argb_world.specs.Picture.{HasRow, at}
use Rattle.comp_stack.specs.Layers.{plane_of}
use Rattle.fx_color.proofs.RowsDrawn.{row_there, row_more, rows_init, rows_all}
use Rattle.fx_blur.specs.Blur.{across, blur_at}
use Rattle.fx_blur.specs.Columns.{AreColumns}
use Rattle.fx_blur.proofs.Moving.{columns_at}
use Rattle.fx_blur.proofs.blur.blur_rows.Goals as goal

pub rows-init : goal.rows-init
rows-init g c =
    let side_fits : FitsSigned w32 c.part-part.result.left = search rules in
    let top_side_fits : FitsSigned w32 c.part-part.result.top = search rules in
    let left_fits : FitsSigned w64 c.number_below-left.result = search rules in
    let top_fits : FitsSigned w64 c.number_below-top.result = search rules in
    let low : c.number_below-left.result ≡ c.part-part.result.left -ℤ pos c.args.radius = simp to_z-of_z at c.number_below-left.ensures in
    let left : c.number_below-left.result ≡ c.args.target.now.part.left -ℤ pos c.args.radius = low ∙ ap (λ (r : Rect). r.left -ℤ pos c.args.radius) c.part-part.ensures.value in
    let high : c.number_below-top.result ≡ c.part-part.result.top -ℤ pos c.args.radius = simp to_z-of_z at c.number_below-top.ensures in
    let top : c.number_below-top.result ≡ c.args.target.now.part.top -ℤ pos c.args.radius = high ∙ ap (λ (r : Rect). r.top -ℤ pos c.args.radius) c.part-part.ensures.value in
    let sums : AreColumns g.row.MAX (at c.args.input.now) c.number_below-left.result c.number_below-top.result c.across.result c.sum_rows.new.columns = simp to_z-of_z at c.sum_rows.ensures in
    record {
      frame = (refl, refl);
      so_far = rows_init (blur_at c.args.radius (plane_of c.args.input.now)) c.args.target.now.part c.args.target.now;
      sums = columns_at g.row.MAX (at c.args.input.now) (c.args.target.now.part.left -ℤ pos c.args.radius) c.number_below-left.result
          ((c.args.target.now.part.top +ℤ pos 0) -ℤ pos c.args.radius) c.number_below-top.result (across c.args.radius) c.across.result c.sum_rows.new.columns
          (sym left) (omega (arith, ints, top)) (sym c.across.ensures) sums;
      long = c.sum_rows.auto.columns;
      bytes = c.sum_rows.auto.row;
      pixels = refl;
    }

pub blur_row-requires : goal.blur_row-requires
blur_row-requires g c =
    let top_fits : FitsSigned w32 c.part-part.result.top = search rules in
    let bottom_fits : FitsSigned w32 c.part-part.result.bottom = search rules in
    let counted = simp to_z-of_z at c.count-k-end.ensures in
    let height : c.count-k-end.result ≡ count_between c.args.target.now.part.top c.args.target.now.part.bottom = counted ∙ ap (λ (r : Rect). count_between r.top r.bottom) c.part-part.ensures.value in
    let y_fits : FitsSigned w32 c.number_at-y.result = search rules in
    let placed = simp to_z-of_z at c.number_at-y.ensures in
    let y_is : c.number_at-y.result ≡ c.args.target.now.part.top +ℤ pos c.rows.k = placed ∙ ap (λ (r : Rect). r.top +ℤ pos c.rows.k) c.part-part.ensures.value in
    let part_is = c.rows.invariant.frame.1 in
    let there : HasRow c.rows.target.part c.number_at-y.result = subst (λ (r : Rect). HasRow r c.number_at-y.result) (sym part_is) (row_there c.args.target.now.part c.number_at-y.result c.rows.k y_is (omega (arith, height, c.rows-test.true))) in
    let long : length c.rows.columns ≡ width_of c.rows.target.part + across c.args.radius = c.rows.invariant.long ∙ c.requires.long ∙ ap (λ (r : Rect). width_of r + across c.args.radius) (sym part_is) in
    let bytes : length c.rows.row ≡ pixel_size g.row.MAX * length c.rows.columns = c.rows.invariant.bytes ∙ c.requires.bytes ∙ ap (λ n. pixel_size g.row.MAX * n) (sym c.rows.invariant.long) in
    let pixels : length c.rows.into ≡ width_of c.rows.target.part = c.rows.invariant.pixels ∙ c.requires.pixels ∙ ap width_of (sym part_is) in
    let sums = columns_at g.row.MAX (at c.args.input.now) (c.rows.target.part.left -ℤ pos c.args.radius) (c.args.target.now.part.left -ℤ pos c.args.radius)
    (c.number_at-y.result -ℤ pos c.args.radius) ((c.args.target.now.part.top +ℤ pos c.rows.k) -ℤ pos c.args.radius) (across c.args.radius) (across c.args.radius) c.rows.columns
    (ap (λ (r : Rect). r.left -ℤ pos c.args.radius) part_is) (ap (λ (y : ℤ). y -ℤ pos c.args.radius) y_is) refl c.rows.invariant.sums in
    (omega arith, (omega arith, (c.requires.depth, (c.requires.near, (simp to_z-of_z there, (long, (bytes, (pixels, simp to_z-of_z sums))))))))

pub rows-preserved : goal.rows-preserved
rows-preserved g c =
    let top_fits : FitsSigned w32 c.part-part.result.top = search rules in
    let bottom_fits : FitsSigned w32 c.part-part.result.bottom = search rules in
    let y_fits : FitsSigned w32 c.number_at-y.result = search rules in
    let placed = simp to_z-of_z at c.number_at-y.ensures in
    let y_is : c.number_at-y.result ≡ c.args.target.now.part.top +ℤ pos c.rows.k = placed ∙ ap (λ (r : Rect). r.top +ℤ pos c.rows.k) c.part-part.ensures.value in
    let part_is = c.rows.invariant.frame.1 in
    let row = simp to_z-of_z at c.blur_row.ensures.drawn in
    let beside = simp to_z-of_z at c.blur_row.ensures.others in
    let sums = simp to_z-of_z at c.blur_row.ensures.sums in
    let frame = c.blur_row.ensures.frame in
    let drawn : (x : ℤ) → Has c.args.target.now.part x c.number_at-y.result → at c.blur_row.new.target x c.number_at-y.result ≡ blur_at c.args.radius (plane_of c.args.input.now) x c.number_at-y.result =
    subst (λ (r : Rect). (x : ℤ) → Has r x c.number_at-y.result → at c.blur_row.new.target x c.number_at-y.result ≡ blur_at c.args.radius (plane_of c.args.input.now) x c.number_at-y.result) part_is row in
    record {
      frame = (frame.0 ∙ c.rows.invariant.frame.0, frame.1 ∙ part_is);
      so_far = row_more (blur_at c.args.radius (plane_of c.args.input.now)) c.args.target.now.part c.number_at-y.result c.rows.k c.rows.target c.blur_row.new.target y_is c.rows.invariant.so_far drawn beside;
      sums = columns_at g.row.MAX (at c.args.input.now) (c.args.target.now.part.left -ℤ pos c.args.radius) (c.rows.target.part.left -ℤ pos c.args.radius)
          ((c.args.target.now.part.top +ℤ pos (c.rows.k + 1)) -ℤ pos c.args.radius) ((c.number_at-y.result -ℤ pos c.args.radius) +ℤ pos 1) (across c.args.radius) (across c.args.radius) c.blur_row.new.columns
          (sym (ap (λ (r : Rect). r.left -ℤ pos c.args.radius) part_is)) (omega (arith, ints, y_is)) refl sums;
      long = c.blur_row.auto.columns ∙ c.rows.invariant.long;
      bytes = c.blur_row.auto.row ∙ c.rows.invariant.bytes;
      pixels = c.blur_row.auto.into ∙ c.rows.invariant.pixels;
    }

pub returns-clause-drawn : goal.returns-clause-drawn
returns-clause-drawn g c =
    let top_fits : FitsSigned w32 c.part-part.result.top = search rules in
    let bottom_fits : FitsSigned w32 c.part-part.result.bottom = search rules in
    let counted = simp to_z-of_z at c.count-k-end.ensures in
    let height : c.count-k-end.result ≡ count_between c.args.target.now.part.top c.args.target.now.part.bottom = counted ∙ ap (λ (r : Rect). count_between r.top r.bottom) c.part-part.ensures.value in
    rows_all (blur_at c.args.radius (plane_of c.args.input.now)) c.args.target.now.part c.rows.k c.rows.target c.rows.invariant.so_far (omega (arith, height, c.rows-test.false))
