use Rattle.std.proofs.Common.{◌≡◌, map, take, slice_index_or}
use Rattle.project_model.specs.Nesting.{layer_ranks}
use Rattle.project_model.proofs.ranks.nodes_of_comps.Given as goal

abbrev pub invariant-loop-comp : goal.invariant-loop-comp
invariant-loop-comp l =
    l.nodes.items ≡ map (λ comp. map (layer_ranks (λ index. slice_index_or l.stacks index 1) comp.layers) comp.layers) (take l.comp-index l.comps)
