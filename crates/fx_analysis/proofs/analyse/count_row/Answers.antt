use Rattle.std.proofs.Common.{◌≡◌, ◌≤◌, ◌<◌, ℕ, pos, ◌+ℤ◌, List, ◌++◌, length, take, get_or, ap, sym, subst, ◌∙◌, arith}
use Rattle.geom_rect.specs.declared.rect.Rect.{Rect}
use Rattle.geom_rect.specs.Rect.{area_of}
use Rattle.argb_pixel.specs.Pixel.{Argb, clear}
use Rattle.argb_world.specs.Picture.{greatest_part}
use Rattle.comp_stack.specs.Layers.{plane_of}
use Rattle.fx_analysis.specs.Sums.{line_of, rows_of, histogram_of}
use Rattle.fx_analysis.proofs.Counting.{with_pixel, long_histogram, room, few_pixels, long_line, level_low, pixel_more, next_pixel, row_done}
use Rattle.fx_analysis.proofs.analyse.count_row.Goals as goal

pub count_pixel-requires : goal.count_pixel-requires
count_pixel-requires g c =
    let plane = plane_of c.args.world.now in
    let pixels = rows_of plane c.args.k ++ take c.loop-i.i (line_of plane (plane.extent.top +ℤ pos c.args.k)) in
    let small : area_of plane.extent ≤ greatest_part = subst (λ (r : Rect). area_of r ≤ greatest_part) (c.part-part.ensures.value ∙ c.requires.whole) c.part-part.ensures.bound in
    let few : length pixels ≤ greatest_part = few_pixels plane c.args.k c.loop-i.i c.requires.there (omega (arith, c.loop-i-test.true, c.row_length-i-end.ensures.value)) small in (
      omega arith,
      (
        c.requires.depth,
        (
          ap length c.loop-i.invariant ∙ long_histogram pixels,
          λ k. subst (λ (counts : List ℕ). get_or counts k 0 < 9223372036854775808) (sym c.loop-i.invariant) (room pixels k few),
        ),
      ),
    )

pub loop-i-preserved : goal.loop-i-preserved
loop-i-preserved g c =
    let plane = plane_of c.args.world.now in
    let line = line_of plane (plane.extent.top +ℤ pos c.args.k) in
    let pixels = rows_of plane c.args.k ++ take c.loop-i.i line in
    let p = c.pixel_in.result in
    let l : c.loop-i.i < length line = omega (arith, c.loop-i-test.true, c.row_length-i-end.ensures.value, long_line plane (plane.extent.top +ℤ pos c.args.k)) in
    let is : p ≡ get_or line c.loop-i.i clear = c.pixel_in.ensures ∙ ap (λ (ps : List Argb). get_or ps c.loop-i.i clear) c.packed_line-row.ensures.pixels in
    c.count_pixel.ensures.counted ∙ ap (with_pixel p) c.loop-i.invariant
    ∙ pixel_more pixels p (level_low g.row.MAX p c.count_pixel.ensures.premultiplied)
    ∙ ap histogram_of (next_pixel (rows_of plane c.args.k) line c.loop-i.i p l is)

pub returns : goal.returns
returns g c =
    c.loop-i.invariant
    ∙ ap histogram_of (row_done (plane_of c.args.world.now) c.args.k c.loop-i.i (omega (arith, c.loop-i-test.false, c.row_length-i-end.ensures.value)))
