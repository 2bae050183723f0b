use Rattle.std.proofs.Common.{rules, ◌≡◌, length, get_or, arith, ap, subst, ◌∙◌, refl, w32, w64, ℕ, ◌*◌}
use Rattle.std.specs.Int.RustNames.{FitsSigned}
use Rattle.std.proofs.lemmas.Int.{to_z-of_z}
use Rattle.argb_pixel.specs.Pixel.{IsPremultiplied, clear}
use Rattle.argb_pixel.specs.Packed.{pixels_of}
use Rattle.argb_world.specs.Picture.{span_of}
use Rattle.fx_blur.specs.Sums.{total}
use Rattle.fx_blur.proofs.Moving.{row_read}
use Rattle.fx_time.specs.Worlds.{planes_in}
use Rattle.fx_time.proofs.Spans.{plane_in}
use Rattle.fx_time.proofs.Summed.{AreSummed, adding_fits, summed_more, sums_within, pixel_in}
use Rattle.fx_time.proofs.mean.sum_rows.Goals as goal

pub add_row-requires-clause-fits : goal.add_row-requires-clause-fits
add_row-requires-clause-fits g c =
    let x_fits : FitsSigned w32 c.args.x = c.ranges.x in
    let y_fits : FitsSigned w32 c.args.y = c.ranges.y in
    let x_wide : FitsSigned w64 c.args.x = search rules in
    let y_wide : FitsSigned w64 c.args.y = search rules in
    let i = c.worlds.i in
    let world = c.index-worlds-i.result in
    let row = pixels_of g.row.MAX c.read_packed_span.new.into in
    let read : row ≡ span_of world.now c.args.x c.args.y (length c.worlds.sums) = simp to_z-of_z at c.read_packed_span.ensures.pixels in
    let are : AreSummed g.row.MAX (planes_in c.args.worlds.now) c.args.x c.args.y i c.worlds.sums = simp to_z-of_z at c.worlds.invariant in
    adding_fits g.row.MAX (planes_in c.args.worlds.now) c.args.x c.args.y i world.now c.worlds.sums row c.worlds.sums
    (plane_in c.args.worlds.now i i world refl c.worlds-test.true c.index-worlds-i.is) are
    (row_read g.row.MAX world.now c.args.x c.args.y (length c.worlds.sums) row read c.read_packed_span.ensures.packed.premultiplied) c.requires.depth (omega (arith, c.worlds-test.true, c.requires.few))

pub worlds-preserved : goal.worlds-preserved
worlds-preserved g c =
    let x_fits : FitsSigned w32 c.args.x = c.ranges.x in
    let y_fits : FitsSigned w32 c.args.y = c.ranges.y in
    let x_wide : FitsSigned w64 c.args.x = search rules in
    let y_wide : FitsSigned w64 c.args.y = search rules in
    let i = c.worlds.i in
    let world = c.index-worlds-i.result in
    let row = pixels_of g.row.MAX c.read_packed_span.new.into in
    let read : row ≡ span_of world.now c.args.x c.args.y (length c.worlds.sums) = simp to_z-of_z at c.read_packed_span.ensures.pixels in
    let are : AreSummed g.row.MAX (planes_in c.args.worlds.now) c.args.x c.args.y i c.worlds.sums = simp to_z-of_z at c.worlds.invariant in
    simp to_z-of_z (summed_more g.row.MAX (planes_in c.args.worlds.now) c.args.x c.args.y i world.now c.worlds.sums row c.add_row.new.sums
    (plane_in c.args.worlds.now i i world refl c.worlds-test.true c.index-worlds-i.is) are
    (row_read g.row.MAX world.now c.args.x c.args.y (length c.worlds.sums) row read c.read_packed_span.ensures.packed.premultiplied) c.add_row.auto.sums c.add_row.ensures)

pub returns-clause-sums : goal.returns-clause-sums
returns-clause-sums g c k l =
    let x_fits : FitsSigned w32 c.args.x = c.ranges.x in
    let y_fits : FitsSigned w32 c.args.y = c.ranges.y in
    let are : AreSummed g.row.MAX (planes_in c.args.worlds.now) c.args.x c.args.y c.worlds.i c.worlds.sums = simp to_z-of_z at c.worlds.invariant in
    let all : c.worlds.i ≡ length c.args.worlds.now = omega (arith, c.worlds.auto.i-end, c.worlds-test.false) in
    are.sums_are k (omega (arith, l, c.worlds.auto.sums))
    ∙ ap (λ (n : ℕ). total (pixel_in g.row.MAX (planes_in c.args.worlds.now) c.args.x c.args.y k) n) all

pub returns-clause-fits : goal.returns-clause-fits
returns-clause-fits g c k l =
    let x_fits : FitsSigned w32 c.args.x = c.ranges.x in
    let y_fits : FitsSigned w32 c.args.y = c.ranges.y in
    let are : AreSummed g.row.MAX (planes_in c.args.worlds.now) c.args.x c.args.y c.worlds.i c.worlds.sums = simp to_z-of_z at c.worlds.invariant in
    let all : c.worlds.i ≡ length c.args.worlds.now = omega (arith, c.worlds.auto.i-end, c.worlds-test.false) in
    subst (λ (n : ℕ). IsPremultiplied (g.row.MAX * n) (get_or c.worlds.sums k clear)) all
    (sums_within g.row.MAX (planes_in c.args.worlds.now) c.args.x c.args.y c.worlds.i c.worlds.sums are k (omega (arith, l, c.worlds.auto.sums)))
