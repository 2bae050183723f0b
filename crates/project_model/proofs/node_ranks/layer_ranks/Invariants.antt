use Rattle.std.proofs.Common.{◌≡◌, ◌++◌, take, drop, slice_index_or}
use Rattle.std.specs.List.{fold}
use Rattle.project_model.specs.Nesting.{source_rank, fx_rank, fx_ranks, layer_ranks}
use Rattle.project_model.proofs.node_ranks.layer_ranks.Given as goal

abbrev pub invariant-loop-fx : goal.invariant-loop-fx
invariant-loop-fx l =
    (l.nodes.items ++ fx_ranks (λ index. slice_index_or l.ranks index 1) l.layers l.rank (drop l.fx-index l.fx-items) ≡ layer_ranks (λ index. slice_index_or l.ranks index 1) l.layers l.layer)
    × (l.rank ≡ fold (fx_rank (λ index. slice_index_or l.ranks index 1) l.layers) (source_rank (λ index. slice_index_or l.ranks index 1) l.layer.source) (take l.fx-index l.fx-items))
