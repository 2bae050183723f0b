use Rattle.std.proofs.Common.{◌≡◌, map}
use Rattle.std.specs.List.{range_with_len}
use Rattle.project_model.specs.Nesting.{reaches}
use Rattle.project_model.proofs.graph.loops_of.Given as goal

abbrev pub invariant-loop-index : goal.invariant-loop-index
invariant-loop-index l = l.loops.items ≡ map (λ index. reaches l.project index index) (range_with_len 0 l.index)
