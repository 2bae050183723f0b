use Rattle.std.proofs.Common.{◌≤◌, ◌+◌, ℕ, ap, subst, ◌∙◌, arith}
use Rattle.geom_rect.specs.declared.rect.Rect.{Rect}
use Rattle.geom_rect.specs.Rect.{area_of}
use Rattle.argb_pixel.specs.Pixel.{luma_of}
use Rattle.argb_world.specs.Picture.{greatest_part, at}
use Rattle.comp_stack.specs.Layers.{plane_of}
use Rattle.fx_analysis.proofs.Counting.{luma_few, alpha_few, sum_within, sum_more}
use Rattle.fx_analysis.proofs.light.world_light.Goals as goal

pub overflow_add-luma : goal.overflow_add-luma
overflow_add-luma g c =
    let plane = plane_of c.args.world.now in
    let small : area_of plane.extent ≤ greatest_part = subst (λ (r : Rect). area_of r ≤ greatest_part) (c.part-part.ensures.value ∙ c.requires.whole) c.part-part.ensures.bound in
    let whole = sum_within luma_of plane (c.rows.k + 1) (λ x y. luma_few g.row.MAX (at c.args.world.now x y) c.part-part.ensures.depth (c.part-part.ensures.pixels x y))
    (omega (arith, c.rows-test.true, c.row_count-k-end.ensures)) in
    let next = ap (λ (n : ℕ). c.rows.luma + n) c.row_light-row.ensures.luma ∙ sum_more luma_of plane c.rows.k c.rows.luma c.rows.invariant.luma in
    omega (arith, whole, small, next)

pub overflow_add-alpha : goal.overflow_add-alpha
overflow_add-alpha g c =
    let plane = plane_of c.args.world.now in
    let small : area_of plane.extent ≤ greatest_part = subst (λ (r : Rect). area_of r ≤ greatest_part) (c.part-part.ensures.value ∙ c.requires.whole) c.part-part.ensures.bound in
    let whole = sum_within (λ p. p.a) plane (c.rows.k + 1) (λ x y. alpha_few g.row.MAX (at c.args.world.now x y) c.part-part.ensures.depth (c.part-part.ensures.pixels x y))
    (omega (arith, c.rows-test.true, c.row_count-k-end.ensures)) in
    let next = ap (λ (n : ℕ). c.rows.alpha + n) c.row_light-row.ensures.alpha ∙ sum_more (λ p. p.a) plane c.rows.k c.rows.alpha c.rows.invariant.alpha in
    omega (arith, whole, small, next)

pub rows-preserved : goal.rows-preserved
rows-preserved g c =
    let plane = plane_of c.args.world.now in
    record {
      luma = ap (λ (n : ℕ). c.rows.luma + n) c.row_light-row.ensures.luma ∙ sum_more luma_of plane c.rows.k c.rows.luma c.rows.invariant.luma;
      alpha = ap (λ (n : ℕ). c.rows.alpha + n) c.row_light-row.ensures.alpha ∙ sum_more (λ p. p.a) plane c.rows.k c.rows.alpha c.rows.invariant.alpha;
    }
