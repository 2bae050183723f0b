use Rattle.std.proofs.Common.{◌≡◌, ◌≤◌, ◌^◌, max, take, slice_index_or}
use Rattle.std.specs.List.{fold}
use Rattle.project_model.specs.Nesting.{last_rank}
use Rattle.project_model.proofs.node_ranks.rank_over.Given as goal

abbrev pub invariant-loop-layer : goal.invariant-loop-layer
invariant-loop-layer l =
    (l.greatest ≡ fold (λ greatest layer. max greatest (last_rank (λ index. slice_index_or l.ranks index 1) l.layers layer)) 0 (take l.layer-index l.layers))
    × (l.greatest ≤ 2 ^ 17)
