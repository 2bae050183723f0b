use Rattle.std.proofs.Common.{◌≡◌, map, take, slice_index_or}
use Rattle.project_model.specs.Nesting.{layer_ranks}
use Rattle.project_model.proofs.ranks.nodes_of_layers.Given as goal

abbrev pub invariant-loop-layer : goal.invariant-loop-layer
invariant-loop-layer l =
    l.nodes.items ≡ map (layer_ranks (λ index. slice_index_or l.stacks index 1) l.layers) (take l.layer-index l.layers)
