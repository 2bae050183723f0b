use Rattle.std.proofs.Common.{◌≡◌, ℕ, ◌<◌, pos, ◌+ℤ◌, ◌≤ℤ◌, ◌<ℤ◌, w32, ap, ◌∙◌, arith, rules, length, get_or}
use Rattle.std.specs.Int.RustNames.{FitsSigned}
use Rattle.std.proofs.lemmas.Int.{ints, to_z-of_z}
use Rattle.geom_rect.specs.Rect.{count_between}
use Rattle.argb_pixel.specs.Pixel.{clear}
use Rattle.argb_world.proofs.Rows.{column_below}
use Rattle.fx_blur.specs.Columns.{HasBlock, block_mean}
use Rattle.fx_blur.proofs.Adding.{written_more}
use Rattle.fx_blur.proofs.mosaic.write_blocks.Goals as goal

pub loop-i-init : goal.loop-i-init
loop-i-init g c = record {
  stripe = λ u first last. absurd (omega (arith, ints, first, last));
  done = λ k l. absurd (omega (arith, l));
}

pub move_stripe-requires : goal.move_stripe-requires
move_stripe-requires g c =
    let start_fits : FitsSigned w32 c.args.start = c.ranges.start in
    let left_fits : FitsSigned w32 c.args.part.left = search rules in
    let right_fits : FitsSigned w32 c.args.part.right = search rules in
    let low_fits : FitsSigned w32 c.args.sides.low = search rules in
    let high_fits : FitsSigned w32 c.args.sides.high = search rules in
    let counted : c.count-i-end.result ≡ count_between c.args.part.left c.args.part.right = simp to_z-of_z at c.count-i-end.ensures in
    let x_fits : FitsSigned w32 c.number_at-x.result = search rules in
    let placed : c.number_at-x.result ≡ c.args.part.left +ℤ pos c.loop-i.i = simp to_z-of_z at c.number_at-x.ensures in
    let before : (c.args.part.left +ℤ pos c.loop-i.i) <ℤ c.args.part.right = column_below c.args.part.left c.args.part.right c.loop-i.i (omega (arith, counted, c.loop-i-test.true)) in
    let there : c.args.sides.low ≤ℤ c.number_at-x.result → c.number_at-x.result <ℤ c.args.sides.high → HasBlock c.args.size c.args.sides.low c.args.sides.high c.args.start (length c.args.columns.now) c.number_at-x.result =
    c.requires.there c.number_at-x.result (omega (arith, ints, placed)) (omega (arith, ints, placed, before)) in
    (omega arith, (c.requires.summed, (omega (arith, ints, placed, before), (simp to_z-of_z there, c.loop-i.invariant.stripe))))

pub loop-i-preserved : goal.loop-i-preserved
loop-i-preserved g c =
    let start_fits : FitsSigned w32 c.args.start = c.ranges.start in
    let left_fits : FitsSigned w32 c.args.part.left = search rules in
    let right_fits : FitsSigned w32 c.args.part.right = search rules in
    let low_fits : FitsSigned w32 c.args.sides.low = search rules in
    let high_fits : FitsSigned w32 c.args.sides.high = search rules in
    let counted : c.count-i-end.result ≡ count_between c.args.part.left c.args.part.right = simp to_z-of_z at c.count-i-end.ensures in
    let x_fits : FitsSigned w32 c.number_at-x.result = search rules in
    let placed : c.number_at-x.result ≡ c.args.part.left +ℤ pos c.loop-i.i = simp to_z-of_z at c.number_at-x.ensures in
    let here : c.move_stripe.new.stripe.pixel ≡ block_mean c.args.size c.args.sides.low c.args.sides.high c.args.start c.args.rows c.args.columns.now c.number_at-x.result = simp to_z-of_z at c.move_stripe.ensures.here in
    let so_far : (k : ℕ) → k < c.loop-i.i → get_or c.loop-i.into k clear ≡ block_mean c.args.size c.args.sides.low c.args.sides.high c.args.start c.args.rows c.args.columns.now (c.args.part.left +ℤ pos k) = simp to_z-of_z at c.loop-i.invariant.done in
    record {
      stripe = c.move_stripe.ensures.pixel;
      done = simp to_z-of_z (written_more (λ k. block_mean c.args.size c.args.sides.low c.args.sides.high c.args.start c.args.rows c.args.columns.now (c.args.part.left +ℤ pos k)) c.loop-i.into c.loop-i.i c.move_stripe.new.stripe.pixel
          (omega (arith, counted, c.loop-i-test.true, c.loop-i.auto.into, c.requires.room)) so_far (here ∙ ap (block_mean c.args.size c.args.sides.low c.args.sides.high c.args.start c.args.rows c.args.columns.now) placed));
    }

pub returns : goal.returns
returns g c =
    let start_fits : FitsSigned w32 c.args.start = c.ranges.start in
    let left_fits : FitsSigned w32 c.args.part.left = search rules in
    let right_fits : FitsSigned w32 c.args.part.right = search rules in
    let low_fits : FitsSigned w32 c.args.sides.low = search rules in
    let high_fits : FitsSigned w32 c.args.sides.high = search rules in
    let counted : c.count-i-end.result ≡ count_between c.args.part.left c.args.part.right = simp to_z-of_z at c.count-i-end.ensures in
    let so_far : (k : ℕ) → k < c.loop-i.i → get_or c.loop-i.into k clear ≡ block_mean c.args.size c.args.sides.low c.args.sides.high c.args.start c.args.rows c.args.columns.now (c.args.part.left +ℤ pos k) = simp to_z-of_z at c.loop-i.invariant.done in
    λ i l. so_far i (omega (arith, l, counted, c.requires.room, c.loop-i-test.false))
