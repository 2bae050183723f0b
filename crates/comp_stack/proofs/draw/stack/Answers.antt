use Rattle.std.proofs.Common.{rules, ◌≡◌, ℤ, pos, ◌+ℤ◌, map, sym, subst, ap, ◌∙◌, refl, arith, w32}
use Rattle.std.specs.Int.RustNames.{FitsSigned}
use Rattle.std.proofs.lemmas.Int.{to_z-of_z}
use Rattle.geom_rect.specs.declared.rect.Rect.{Rect}
use Rattle.geom_rect.specs.Rect.{Has, count_between}
use Rattle.argb_world.specs.Picture.{HasRow, at}
use Rattle.comp_stack.specs.Layers.{layer_of}
use Rattle.comp_stack.specs.Stack.{stack_over}
use Rattle.comp_stack.proofs.Grounds.{row_there, row_more, rows_init, rows_all}
use Rattle.comp_stack.proofs.draw.stack.Goals as goal

pub rows-init : goal.rows-init
rows-init g c = record { frame = (refl, refl); so_far = rows_init g.row.MAX (map layer_of c.args.layers.now) c.args.ground.now.part c.args.ground.now; into = refl; source = refl; matte = refl }

pub stack_row-requires : goal.stack_row-requires
stack_row-requires g c =
    let top_fits : FitsSigned w32 c.part-part.result.top = search rules in
    let bottom_fits : FitsSigned w32 c.part-part.result.bottom = search rules in
    let counted = simp to_z-of_z at c.count-k-end.ensures in
    let height : c.count-k-end.result ≡ count_between c.args.ground.now.part.top c.args.ground.now.part.bottom = counted ∙ ap (λ (r : Rect). count_between r.top r.bottom) c.part-part.ensures.value in
    let y_fits : FitsSigned w32 c.number_at-y.result = search rules in
    let placed = simp to_z-of_z at c.number_at-y.ensures in
    let y_is : c.number_at-y.result ≡ c.args.ground.now.part.top +ℤ pos c.rows.k = placed ∙ ap (λ (r : Rect). r.top +ℤ pos c.rows.k) c.part-part.ensures.value in
    let part_is = c.rows.invariant.frame.1 in
    let there : HasRow c.rows.ground.part c.number_at-y.result = subst (λ (r : Rect). HasRow r c.number_at-y.result) (sym part_is) (row_there c.args.ground.now.part c.number_at-y.result c.rows.k y_is (omega (arith, height, c.rows-test.true))) in
    (omega arith, (omega arith, (c.requires, (simp to_z-of_z there, (c.rows.invariant.into, (c.rows.invariant.source, c.rows.invariant.matte))))))

pub rows-preserved : goal.rows-preserved
rows-preserved g c =
    let top_fits : FitsSigned w32 c.part-part.result.top = search rules in
    let bottom_fits : FitsSigned w32 c.part-part.result.bottom = search rules in
    let counted = simp to_z-of_z at c.count-k-end.ensures in
    let height : c.count-k-end.result ≡ count_between c.args.ground.now.part.top c.args.ground.now.part.bottom = counted ∙ ap (λ (r : Rect). count_between r.top r.bottom) c.part-part.ensures.value in
    let y_fits : FitsSigned w32 c.number_at-y.result = search rules in
    let placed = simp to_z-of_z at c.number_at-y.ensures in
    let y_is : c.number_at-y.result ≡ c.args.ground.now.part.top +ℤ pos c.rows.k = placed ∙ ap (λ (r : Rect). r.top +ℤ pos c.rows.k) c.part-part.ensures.value in
    let part_is = c.rows.invariant.frame.1 in
    let row = simp to_z-of_z at c.stack_row.ensures.stacked in
    let beside = simp to_z-of_z at c.stack_row.ensures.others in
    let frame = c.stack_row.ensures.frame in
    let laid : (x : ℤ) → Has c.args.ground.now.part x c.number_at-y.result → at c.stack_row.new.ground x c.number_at-y.result ≡ stack_over g.row.MAX (map layer_of c.args.layers.now) x c.number_at-y.result (at c.rows.ground x c.number_at-y.result) =
    subst (λ (r : Rect). (x : ℤ) → Has r x c.number_at-y.result → at c.stack_row.new.ground x c.number_at-y.result ≡ stack_over g.row.MAX (map layer_of c.args.layers.now) x c.number_at-y.result (at c.rows.ground x c.number_at-y.result)) part_is row in
    record {
      frame = (frame.0 ∙ c.rows.invariant.frame.0, frame.1 ∙ part_is);
      so_far = row_more g.row.MAX (map layer_of c.args.layers.now) c.args.ground.now.part c.number_at-y.result c.rows.k c.args.ground.now c.rows.ground c.stack_row.new.ground y_is c.rows.invariant.so_far laid beside;
      into = c.stack_row.auto.into ∙ c.rows.invariant.into;
      source = c.stack_row.auto.source ∙ c.rows.invariant.source;
      matte = c.stack_row.auto.matte ∙ c.rows.invariant.matte;
    }

pub returns-clause-stacked : goal.returns-clause-stacked
returns-clause-stacked g c =
    let top_fits : FitsSigned w32 c.part-part.result.top = search rules in
    let bottom_fits : FitsSigned w32 c.part-part.result.bottom = search rules in
    let counted = simp to_z-of_z at c.count-k-end.ensures in
    let height : c.count-k-end.result ≡ count_between c.args.ground.now.part.top c.args.ground.now.part.bottom = counted ∙ ap (λ (r : Rect). count_between r.top r.bottom) c.part-part.ensures.value in
    rows_all g.row.MAX (map layer_of c.args.layers.now) c.args.ground.now.part c.rows.k c.args.ground.now c.rows.ground c.rows.invariant.so_far (omega (arith, height, c.rows-test.false))
