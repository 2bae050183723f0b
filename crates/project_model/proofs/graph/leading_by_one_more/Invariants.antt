use Rattle.std.proofs.Common.{◌≡◌, false, map, take, slice_index_or}
use Rattle.project_model.specs.Nesting.{lead_to}
use Rattle.project_model.proofs.graph.leading_by_one_more.Given as goal

abbrev pub invariant-loop-comp : goal.invariant-loop-comp
invariant-loop-comp l =
    l.more.items ≡ map (λ comp. lead_to (λ nested. slice_index_or l.leading nested false) l.other comp.layers) (take l.comp-index l.comps)
