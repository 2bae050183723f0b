use Rattle.std.proofs.Common.{rules, ◌≡◌, pos, ◌+ℤ◌, map, sym, subst, ap, ◌∙◌, refl, arith, w32}
use Rattle.std.specs.Int.RustNames.{FitsSigned}
use Rattle.std.proofs.lemmas.Int.{to_z-of_z}
use Rattle.geom_rect.specs.declared.rect.Rect.{Rect}
use Rattle.geom_rect.specs.Rect.{count_between}
use Rattle.argb_world.specs.Picture.{HasSpan}
use Rattle.comp_stack.specs.Layers.{layer_of}
use Rattle.comp_stack.proofs.Grounds.{chunk_there, chunk_more, chunks_init, chunks_all}
use Rattle.comp_stack.proofs.draw.stack_row.Goals as goal

pub chunks-init : goal.chunks-init
chunks-init g c =
    let y_fits : FitsSigned w32 c.args.y = c.ranges.y in
    simp to_z-of_z (
    record {
      frame = (refl, refl);
      so_far = chunks_init g.row.MAX (map layer_of c.args.layers.now) c.args.ground.now.part c.args.y c.args.ground.now;
      others = λ u v differs. refl;
      within = omega arith;
    })

pub stack_chunk-requires : goal.stack_chunk-requires
stack_chunk-requires g c =
    let y_fits : FitsSigned w32 c.args.y = c.ranges.y in
    let left_fits : FitsSigned w32 c.part-part.result.left = search rules in
    let right_fits : FitsSigned w32 c.part-part.result.right = search rules in
    let counted = simp to_z-of_z at c.count-width.ensures in
    let width : c.count-width.result ≡ count_between c.args.ground.now.part.left c.args.ground.now.part.right = counted ∙ ap (λ (r : Rect). count_between r.left r.right) c.part-part.ensures.value in
    let x_fits : FitsSigned w32 c.number_at-x.result = search rules in
    let placed = simp to_z-of_z at c.number_at-x.ensures in
    let x_is : c.number_at-x.result ≡ c.args.ground.now.part.left +ℤ pos c.chunks.done = placed ∙ ap (λ (r : Rect). r.left +ℤ pos c.chunks.done) c.part-part.ensures.value in
    let part_is = c.chunks.invariant.frame.1 in
    let there : HasSpan c.args.ground.now.part c.number_at-x.result c.args.y c.min-many.result =
    chunk_there c.args.ground.now.part c.number_at-x.result c.args.y c.chunks.done c.min-many.result c.requires.there x_is (omega (arith, c.min-many.ensures, c.chunks-test.true)) (omega (arith, c.min-many.ensures, width, c.chunks-test.true)) in
    let whole : HasSpan c.chunks.ground.part c.number_at-x.result c.args.y c.min-many.result = subst (λ (r : Rect). HasSpan r c.number_at-x.result c.args.y c.min-many.result) (sym part_is) there in (
      omega arith,
      (omega arith, (c.part-part.ensures.depth, (c.requires.layers, (simp to_z-of_z whole, (omega (arith, c.min-many.ensures), (c.chunks.auto.into ∙ c.requires.room, (c.chunks.auto.source ∙ c.requires.source, c.chunks.auto.matte ∙ c.requires.matte))))))),
    )

pub chunks-preserved : goal.chunks-preserved
chunks-preserved g c =
    let y_fits : FitsSigned w32 c.args.y = c.ranges.y in
    let left_fits : FitsSigned w32 c.part-part.result.left = search rules in
    let right_fits : FitsSigned w32 c.part-part.result.right = search rules in
    let counted = simp to_z-of_z at c.count-width.ensures in
    let width : c.count-width.result ≡ count_between c.args.ground.now.part.left c.args.ground.now.part.right = counted ∙ ap (λ (r : Rect). count_between r.left r.right) c.part-part.ensures.value in
    let x_fits : FitsSigned w32 c.number_at-x.result = search rules in
    let placed = simp to_z-of_z at c.number_at-x.ensures in
    let x_is : c.number_at-x.result ≡ c.args.ground.now.part.left +ℤ pos c.chunks.done = placed ∙ ap (λ (r : Rect). r.left +ℤ pos c.chunks.done) c.part-part.ensures.value in
    let part_is = c.chunks.invariant.frame.1 in
    let was = simp to_z-of_z at c.chunks.invariant.so_far in
    let stays = simp to_z-of_z at c.chunks.invariant.others in
    let chunk = simp to_z-of_z at c.stack_chunk.ensures.stacked in
    let beside = simp to_z-of_z at c.stack_chunk.ensures.others in
    let frame = c.stack_chunk.ensures.frame in
    simp to_z-of_z (
    record {
      frame = (frame.0 ∙ c.chunks.invariant.frame.0, frame.1 ∙ part_is);
      so_far = chunk_more g.row.MAX (map layer_of c.args.layers.now) c.args.ground.now.part c.number_at-x.result c.args.y c.chunks.done c.min-many.result c.args.ground.now c.chunks.ground c.stack_chunk.new.ground x_is was chunk beside;
      others = λ u v differs. beside u v (λ i. differs i.0) ∙ stays u v differs;
      within = omega (arith, c.min-many.ensures, c.chunks-test.true);
    })

pub returns-clause-stacked : goal.returns-clause-stacked
returns-clause-stacked g c =
    let y_fits : FitsSigned w32 c.args.y = c.ranges.y in
    let left_fits : FitsSigned w32 c.part-part.result.left = search rules in
    let right_fits : FitsSigned w32 c.part-part.result.right = search rules in
    let counted = simp to_z-of_z at c.count-width.ensures in
    let width : c.count-width.result ≡ count_between c.args.ground.now.part.left c.args.ground.now.part.right = counted ∙ ap (λ (r : Rect). count_between r.left r.right) c.part-part.ensures.value in
    let was = simp to_z-of_z at c.chunks.invariant.so_far in
    chunks_all g.row.MAX (map layer_of c.args.layers.now) c.args.ground.now.part c.args.y c.chunks.done c.args.ground.now c.chunks.ground was (omega (arith, width, c.chunks-test.false))

pub returns-clause-others : goal.returns-clause-others
returns-clause-others g c =
    let y_fits : FitsSigned w32 c.args.y = c.ranges.y in
    simp to_z-of_z at c.chunks.invariant.others
