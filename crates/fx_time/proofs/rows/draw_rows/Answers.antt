use Rattle.std.proofs.Common.{rules, ◌≡◌, ℤ, pos, ◌+ℤ◌, ◌*◌, sym, subst, ap, ◌∙◌, refl, arith, w32, length}
use Rattle.std.specs.Int.RustNames.{FitsSigned}
use Rattle.std.proofs.lemmas.Int.{to_z-of_z}
use Rattle.geom_rect.specs.declared.rect.Rect.{Rect}
use Rattle.geom_rect.specs.Rect.{Has, count_between, width_of}
use Rattle.argb_pixel.specs.Packed.{pixel_size}
use Rattle.argb_world.specs.Picture.{HasRow, at}
use Rattle.fx_color.proofs.RowsDrawn.{row_there, row_more, rows_init, rows_all}
use Rattle.fx_time.proofs.rows.draw_rows.Goals as goal

pub rows-init : goal.rows-init
rows-init g c = record {
  frame = (refl, refl);
  so_far = rows_init (g.R.DrawRow.drawing c.args.rule.now) c.args.target.now.part c.args.target.now;
  more = c.requires.more;
  room = c.requires.room;
}

pub draw_one-requires : goal.draw_one-requires
draw_one-requires g c =
    let top_fits : FitsSigned w32 c.part-part.result.top = search rules in
    let bottom_fits : FitsSigned w32 c.part-part.result.bottom = search rules in
    let counted = simp to_z-of_z at c.count-k-end.ensures in
    let height : c.count-k-end.result ≡ count_between c.args.target.now.part.top c.args.target.now.part.bottom = counted ∙ ap (λ (r : Rect). count_between r.top r.bottom) c.part-part.ensures.value in
    let y_fits : FitsSigned w32 c.number_at-y.result = search rules in
    let placed = simp to_z-of_z at c.number_at-y.ensures in
    let y_is : c.number_at-y.result ≡ c.args.target.now.part.top +ℤ pos c.rows.k = placed ∙ ap (λ (r : Rect). r.top +ℤ pos c.rows.k) c.part-part.ensures.value in
    let part_is = c.rows.invariant.frame.1 in
    let there : HasRow c.rows.target.part c.number_at-y.result = subst (λ (r : Rect). HasRow r c.number_at-y.result) (sym part_is) (row_there c.args.target.now.part c.number_at-y.result c.rows.k y_is (omega (arith, height, c.rows-test.true))) in
    let more : length c.rows.spare ≡ g.R.DrawRow.room (width_of c.rows.target.part) = c.rows.invariant.more ∙ ap (λ (r : Rect). g.R.DrawRow.room (width_of r)) (sym part_is) in
    let room : length c.rows.into ≡ pixel_size g.row.MAX * width_of c.rows.target.part = c.rows.invariant.room ∙ ap (λ (r : Rect). pixel_size g.row.MAX * width_of r) (sym part_is) in
    (omega arith, (c.requires.depth, (simp to_z-of_z there, (more, room))))

pub rows-preserved : goal.rows-preserved
rows-preserved g c =
    let top_fits : FitsSigned w32 c.part-part.result.top = search rules in
    let bottom_fits : FitsSigned w32 c.part-part.result.bottom = search rules in
    let y_fits : FitsSigned w32 c.number_at-y.result = search rules in
    let placed = simp to_z-of_z at c.number_at-y.ensures in
    let y_is : c.number_at-y.result ≡ c.args.target.now.part.top +ℤ pos c.rows.k = placed ∙ ap (λ (r : Rect). r.top +ℤ pos c.rows.k) c.part-part.ensures.value in
    let part_is = c.rows.invariant.frame.1 in
    let drawing = g.R.DrawRow.drawing c.args.rule.now in
    let row = simp to_z-of_z at c.draw_one.ensures.drawn in
    let beside = simp to_z-of_z at c.draw_one.ensures.others in
    let frame = c.draw_one.ensures.frame in
    let drawn : (x : ℤ) → Has c.args.target.now.part x c.number_at-y.result → at c.draw_one.new.target x c.number_at-y.result ≡ drawing x c.number_at-y.result =
    subst (λ (r : Rect). (x : ℤ) → Has r x c.number_at-y.result → at c.draw_one.new.target x c.number_at-y.result ≡ drawing x c.number_at-y.result) part_is row in
    record {
      frame = (frame.0 ∙ c.rows.invariant.frame.0, frame.1 ∙ part_is);
      so_far = row_more drawing c.args.target.now.part c.number_at-y.result c.rows.k c.rows.target c.draw_one.new.target y_is c.rows.invariant.so_far drawn beside;
      more = c.draw_one.auto.spare ∙ c.rows.invariant.more;
      room = c.draw_one.auto.into ∙ c.rows.invariant.room;
    }

pub returns-clause-drawn : goal.returns-clause-drawn
returns-clause-drawn g c =
    let top_fits : FitsSigned w32 c.part-part.result.top = search rules in
    let bottom_fits : FitsSigned w32 c.part-part.result.bottom = search rules in
    let counted = simp to_z-of_z at c.count-k-end.ensures in
    let height : c.count-k-end.result ≡ count_between c.args.target.now.part.top c.args.target.now.part.bottom = counted ∙ ap (λ (r : Rect). count_between r.top r.bottom) c.part-part.ensures.value in
    rows_all (g.R.DrawRow.drawing c.args.rule.now) c.args.target.now.part c.rows.k c.rows.target c.rows.invariant.so_far (omega (arith, height, c.rows-test.false))
