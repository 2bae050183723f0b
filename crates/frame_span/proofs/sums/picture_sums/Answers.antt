use Rattle.std.proofs.Common.{rules, w32, to_z, ◌≡◌, ◌≤◌, ◌<◌, ◌^◌, pos, length, ap, subst, sym, ◌∙◌, arith}
use Rattle.std.specs.Int.RustNames.{FitsSigned}
use Rattle.std.proofs.lemmas.Int.{to_z_pos}
use Rattle.geom_rect.specs.Rect.{area_of, width_of}
use Rattle.geom_rect.specs.declared.rect.Rect.{Rect}
use Rattle.argb_pixel.specs.Pixel.{IsPremultiplied}
use Rattle.argb_world.specs.Picture.{greatest_part, row_of}
use Rattle.frame_span.specs.Sums.{AreAtMost, both_sums, first_rows, sums_of}
use Rattle.frame_span.proofs.Frames.{count_from_zero}
use Rattle.frame_span.proofs.Pixels.{all_row, all_rows, few_rows, few_sums, long_row, rows_more, sums_both}
use Rattle.frame_span.proofs.sums.picture_sums.Goals as goal

pub with-sums-requires-clause-few : goal.with-sums-requires-clause-few
with-sums-requires-clause-few g c =
    let world = c.args.world.now in
    let small : area_of world.part ≤ greatest_part = subst (λ (r : Rect). area_of r ≤ greatest_part) c.part-part.ensures.value c.part-part.ensures.bound in
    subst (AreAtMost (2 ^ 62)) (sym c.rows.invariant)
    (few_sums g.row.MAX greatest_part (first_rows world c.rows.y) c.part-part.ensures.depth (all_rows (IsPremultiplied g.row.MAX) world c.part-part.ensures.pixels c.rows.y)
    (few_rows world c.args.width c.args.height c.rows.y c.requires.part small (omega (arith, c.rows-test.true))) (omega arith))

pub with-sums-requires-clause-few_more : goal.with-sums-requires-clause-few_more
with-sums-requires-clause-few_more g c =
    let world = c.args.world.now in
    let y = to_z w32 c.rows.y in
    let wide : length (row_of world y) ≤ c.args.width =
    omega (arith, long_row world y, ap width_of c.requires.part, count_from_zero c.args.width) in
    subst (AreAtMost (2 ^ 62)) (sym c.row_sums.ensures)
    (few_sums g.row.MAX (2 ^ 32) (row_of world y) c.part-part.ensures.depth (all_row (IsPremultiplied g.row.MAX) world c.part-part.ensures.pixels y)
    (omega (arith, wide, c.ranges.width.fits)) (omega arith))

pub rows-preserved : goal.rows-preserved
rows-preserved g c =
    let world = c.args.world.now in
    let bottom : FitsSigned w32 c.part-part.result.bottom = search rules in
    let here : c.part-part.result.bottom ≡ pos c.args.height = ap (λ (r : Rect). r.bottom) (c.part-part.ensures.value ∙ c.requires.part) in
    let few : FitsSigned w32 (pos c.args.height) = subst (FitsSigned w32) here bottom in
    let low : c.rows.y < 2147483648 = omega (arith, few, c.rows-test.true) in
    let at : to_z w32 c.rows.y ≡ pos c.rows.y = to_z_pos w32 c.rows.y low in
    c.with-sums.ensures ∙ ap (λ s. both_sums s c.row_sums.result) c.rows.invariant
    ∙ ap (both_sums (sums_of (first_rows world c.rows.y))) (c.row_sums.ensures ∙ ap (λ y. sums_of (row_of world y)) at)
    ∙ sums_both (first_rows world c.rows.y) (row_of world (pos c.rows.y)) ∙ ap sums_of (rows_more world c.rows.y)
