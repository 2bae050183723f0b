use Rattle.std.proofs.Common.{rules, ◌≡◌, ℤ, pos, ◌+ℤ◌, sym, subst, ap, ◌∙◌, refl, arith, w32, length}
use Rattle.std.specs.Int.RustNames.{FitsSigned}
use Rattle.std.proofs.lemmas.Int.{to_z-of_z}
use Rattle.geom_rect.specs.declared.rect.Rect.{Rect}
use Rattle.geom_rect.specs.Rect.{Has, count_between, width_of}
use Rattle.argb_world.specs.Picture.{HasRow, at}
use Rattle.fx_color.proofs.RowsDrawn.{row_there, row_more, rows_init, rows_all}
use Rattle.fx_color.proofs.rows.recolor_rows.Goals as goal

pub rows-init : goal.rows-init
rows-init g c = record {
  frame = (refl, refl);
  so_far = rows_init (λ x y. g.R.Recolor.recolored c.args.rule.now (at c.args.from.now x y)) c.args.target.now.part c.args.target.now;
  room = c.requires.room;
}

pub recolor_row-requires : goal.recolor_row-requires
recolor_row-requires g c =
    let top_fits : FitsSigned w32 c.part-part.result.top = search rules in
    let bottom_fits : FitsSigned w32 c.part-part.result.bottom = search rules in
    let counted = simp to_z-of_z at c.count-k-end.ensures in
    let height : c.count-k-end.result ≡ count_between c.args.target.now.part.top c.args.target.now.part.bottom = counted ∙ ap (λ (r : Rect). count_between r.top r.bottom) c.part-part.ensures.value in
    let y_fits : FitsSigned w32 c.number_at-y.result = search rules in
    let placed = simp to_z-of_z at c.number_at-y.ensures in
    let y_is : c.number_at-y.result ≡ c.args.target.now.part.top +ℤ pos c.rows.k = placed ∙ ap (λ (r : Rect). r.top +ℤ pos c.rows.k) c.part-part.ensures.value in
    let part_is = c.rows.invariant.frame.1 in
    let there : HasRow c.rows.target.part c.number_at-y.result = subst (λ (r : Rect). HasRow r c.number_at-y.result) (sym part_is) (row_there c.args.target.now.part c.number_at-y.result c.rows.k y_is (omega (arith, height, c.rows-test.true))) in
    let room : length c.rows.into ≡ width_of c.rows.target.part = c.rows.invariant.room ∙ ap width_of (sym part_is) in
    (omega arith, (omega arith, (c.requires.depth, (simp to_z-of_z there, room))))

pub rows-preserved : goal.rows-preserved
rows-preserved g c =
    let top_fits : FitsSigned w32 c.part-part.result.top = search rules in
    let bottom_fits : FitsSigned w32 c.part-part.result.bottom = search rules in
    let y_fits : FitsSigned w32 c.number_at-y.result = search rules in
    let placed = simp to_z-of_z at c.number_at-y.ensures in
    let y_is : c.number_at-y.result ≡ c.args.target.now.part.top +ℤ pos c.rows.k = placed ∙ ap (λ (r : Rect). r.top +ℤ pos c.rows.k) c.part-part.ensures.value in
    let part_is = c.rows.invariant.frame.1 in
    let row = simp to_z-of_z at c.recolor_row.ensures.drawn in
    let beside = simp to_z-of_z at c.recolor_row.ensures.others in
    let frame = c.recolor_row.ensures.frame in
    let drawn : (x : ℤ) → Has c.args.target.now.part x c.number_at-y.result → at c.recolor_row.new.target x c.number_at-y.result ≡ g.R.Recolor.recolored c.args.rule.now (at c.args.from.now x c.number_at-y.result) =
    subst (λ (r : Rect). (x : ℤ) → Has r x c.number_at-y.result → at c.recolor_row.new.target x c.number_at-y.result ≡ g.R.Recolor.recolored c.args.rule.now (at c.args.from.now x c.number_at-y.result)) part_is row in
    record {
      frame = (frame.0 ∙ c.rows.invariant.frame.0, frame.1 ∙ part_is);
      so_far = row_more (λ x y. g.R.Recolor.recolored c.args.rule.now (at c.args.from.now x y)) c.args.target.now.part c.number_at-y.result c.rows.k c.rows.target c.recolor_row.new.target y_is c.rows.invariant.so_far drawn beside;
      room = c.recolor_row.auto.into ∙ c.rows.invariant.room;
    }

pub returns-clause-drawn : goal.returns-clause-drawn
returns-clause-drawn g c =
    let top_fits : FitsSigned w32 c.part-part.result.top = search rules in
    let bottom_fits : FitsSigned w32 c.part-part.result.bottom = search rules in
    let counted = simp to_z-of_z at c.count-k-end.ensures in
    let height : c.count-k-end.result ≡ count_between c.args.target.now.part.top c.args.target.now.part.bottom = counted ∙ ap (λ (r : Rect). count_between r.top r.bottom) c.part-part.ensures.value in
    rows_all (λ x y. g.R.Recolor.recolored c.args.rule.now (at c.args.from.now x y)) c.args.target.now.part c.rows.k c.rows.target c.rows.invariant.so_far (omega (arith, height, c.rows-test.false))
