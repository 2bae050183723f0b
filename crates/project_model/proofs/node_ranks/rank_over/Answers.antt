use Rattle.std.proofs.Common.{◌≡◌, ◌≤◌, ◌^◌, max, slice_index_or, ◌∙◌, sym, subst, ap, rules}
use Rattle.std.proofs.Math.Nat.{max-le}
use Rattle.project_model.specs.Nesting.{last_rank}
use Rattle.project_model.specs.declared.plain.PlainLayer.{PlainLayer}
use Rattle.project_model.proofs.RankSteps.{folded_more}
use Rattle.project_model.proofs.node_ranks.rank_over.Goals as goal

pub loop-layer-preserved : goal.loop-layer-preserved
loop-layer-preserved c =
    let greatest : c.max-greatest.result ≡ max c.loop-layer.greatest c.last_rank.result = search rules in (
      folded_more (λ greatest (layer : PlainLayer). max greatest (last_rank (λ k. slice_index_or c.args.ranks.now k 1) c.args.layers.now layer)) 0
          c.args.layers.now c.loop-layer.layer-index c.layer-item.result c.loop-layer.greatest c.max-greatest.result
          c.loop-layer.invariant.0 c.loop-layer-test.true c.layer-item.is (greatest ∙ ap (max c.loop-layer.greatest) c.last_rank.ensures.value),
      subst (λ n. n ≤ 2 ^ 17) (sym greatest) (max-le c.loop-layer.invariant.1 c.last_rank.ensures.bound),
    )
