use Rattle.std.proofs.Common.{◌≤◌, length, slice_index_or, ap, arith}
use Rattle.project_model.specs.Bounds.{most_effects}
use Rattle.project_model.specs.Nesting.{source_rank, fx_rank, layer_ranks}
use Rattle.project_model.specs.declared.plain.PlainFx.{PlainFx}
use Rattle.project_model.proofs.RankSteps.{folded_more, small_so_far, listed_more}
use Rattle.project_model.proofs.node_ranks.layer_ranks.Goals as goal

pub fx_rank-rank-requires-clause-input : goal.fx_rank-rank-requires-clause-input
fx_rank-rank-requires-clause-input c =
    let few : length c.as_slice-fx-items.result.now ≤ most_effects = omega (arith, ap (length {A = PlainFx}) c.as_slice-fx-items.ensures, c.requires.few) in
    small_so_far (λ k. slice_index_or c.args.ranks.now k 1) c.requires.small c.args.layers.now c.args.layer.now.source c.as_slice-fx-items.result.now
    c.loop-fx.fx-index c.loop-fx.rank few c.loop-fx.invariant.1

pub loop-fx-preserved : goal.loop-fx-preserved
loop-fx-preserved c = (
  listed_more (λ k. slice_index_or c.args.ranks.now k 1) c.args.layers.now c.as_slice-fx-items.result.now c.loop-fx.fx-index c.fx-item.result c.loop-fx.rank c.fx_rank-rank.result
      c.loop-fx.nodes.items _ (layer_ranks (λ k. slice_index_or c.args.ranks.now k 1) c.args.layers.now c.args.layer.now)
      c.loop-fx.invariant.0 c.loop-fx-test.true c.fx-item.is c.fx_rank-rank.ensures c.in_ok-push-2.ensures.items,
  folded_more (fx_rank (λ k. slice_index_or c.args.ranks.now k 1) c.args.layers.now) (source_rank (λ k. slice_index_or c.args.ranks.now k 1) c.args.layer.now.source)
      c.as_slice-fx-items.result.now c.loop-fx.fx-index c.fx-item.result c.loop-fx.rank c.fx_rank-rank.result
      c.loop-fx.invariant.1 c.loop-fx-test.true c.fx-item.is c.fx_rank-rank.ensures,
)
