use Rattle.std.proofs.Common.{◌≡◌, ◌≤◌, max, take, slice_index_or, ◌^◌}
use Rattle.std.specs.List.{fold}
use Rattle.project_model.specs.Nesting.{source_rank_at}
use Rattle.project_model.proofs.node_ranks.fx_rank.Given as goal

abbrev pub invariant-loop-index : goal.invariant-loop-index
invariant-loop-index l =
    (l.greatest ≡ fold (λ greatest index. max greatest (source_rank_at (λ k. slice_index_or l.ranks k 1) l.layers index)) l.input (take l.index-index l.index-items))
    × (l.greatest ≤ 2 ^ 17)
