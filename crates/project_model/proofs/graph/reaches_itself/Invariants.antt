use Rattle.std.proofs.Common.{◌≡◌, ℕ, false, slice_index_or}
use Rattle.project_model.specs.Nesting.{reaches_in}
use Rattle.project_model.proofs.graph.reaches_itself.Given as goal

abbrev pub invariant-loop-step : goal.invariant-loop-step
invariant-loop-step l = (i : ℕ) → slice_index_or l.leading.items i false ≡ reaches_in l._step l.project i l.index
