use Rattle.std.proofs.Common.{◌≡◌, map, take, slice_index_or}
use Rattle.project_model.specs.Nesting.{rank_over}
use Rattle.project_model.proofs.graph.ranks_of_one_more.Given as goal

abbrev pub invariant-loop-comp : goal.invariant-loop-comp
invariant-loop-comp l =
    l.more.items ≡ map (λ comp. rank_over (λ index. slice_index_or l.ranks index 1) comp.layers) (take l.comp-index l.comps)
