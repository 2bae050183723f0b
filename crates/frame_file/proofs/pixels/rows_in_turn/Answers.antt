use Rattle.std.proofs.Common.{◌≡◌, ◌+ℤ◌, ◌++◌, List, ℕ, pos, sym, ap, ◌∙◌, w32, to_z, of_z, rules, arith}
use Rattle.std.specs.Int.RustNames.{FitsSigned}
use Rattle.std.proofs.lemmas.Int.{ints, to_z-of_z}
use Rattle.geom_rect.specs.declared.rect.Rect.{Rect}
use Rattle.geom_rect.specs.Rect.{count_between}
use Rattle.frame_file.specs.Afr.{world_row_bytes}
use Rattle.frame_file.proofs.Rows.{rows_to, rows_more}
use Rattle.frame_file.proofs.pixels.rows_in_turn.Goals as goal

pub push_row-requires : goal.push_row-requires
push_row-requires g c =
    let part = c.args.world.now.part in
    let fits : FitsSigned w32 c.row_at.result = search rules in
    let top_fits : FitsSigned w32 c.part-part.result.top = search rules in
    let bottom_fits : FitsSigned w32 c.part-part.result.bottom = search rules in
    let same : to_z w32 (of_z w32 c.row_at.result) ≡ c.row_at.result = to_z-of_z w32 c.row_at.result fits in
    let top_is : c.part-part.result.top ≡ part.top = ap (λ (r : Rect). r.top) c.part-part.ensures.value in
    let bottom_is : c.part-part.result.bottom ≡ part.bottom = ap (λ (r : Rect). r.bottom) c.part-part.ensures.value in
    let is = simp to_z-of_z at c.row_at.ensures.value in
    let under = simp to_z-of_z at c.row_at.ensures.above in
    (omega arith, (c.part-part.ensures.depth, (omega (arith, ints, same, is, top_is), omega (arith, ints, same, under, bottom_is))))

pub loop-k-preserved : goal.loop-k-preserved
loop-k-preserved g c =
    let world = c.args.world.now in
    let row_at : ℕ → List ℕ = λ k. world_row_bytes g.row.MAX world (world.part.top +ℤ pos k) in
    let fits : FitsSigned w32 c.row_at.result = search rules in
    let top_fits : FitsSigned w32 c.part-part.result.top = search rules in
    let top_is : c.part-part.result.top ≡ world.part.top = ap (λ (r : Rect). r.top) c.part-part.ensures.value in
    let is = simp to_z-of_z at c.row_at.ensures.value in
    let pushed = simp to_z-of_z at c.in_ok-push_row.ensures in
    pushed
    ∙ ap (λ xs. xs ++ world_row_bytes g.row.MAX world c.row_at.result) c.loop-k.invariant
    ∙ sym (rows_more (world_row_bytes g.row.MAX world) world.part.top c.row_at.result c.loop-k.k (is ∙ ap (λ t. t +ℤ pos c.loop-k.k) top_is))

pub returns : goal.returns
returns g c =
    let world = c.args.world.now in
    let top_fits : FitsSigned w32 c.part-part.result.top = search rules in
    let bottom_fits : FitsSigned w32 c.part-part.result.bottom = search rules in
    let count = simp to_z-of_z at c.count-k-end.ensures in
    let same : count_between c.part-part.result.top c.part-part.result.bottom ≡ count_between world.part.top world.part.bottom = ap (λ (r : Rect). count_between r.top r.bottom) c.part-part.ensures.value in
    c.loop-k.invariant
    ∙ ap (rows_to (world_row_bytes g.row.MAX world) world.part.top) (omega (arith, count, same, c.loop-k-test.false, c.loop-k.auto.k-end))
