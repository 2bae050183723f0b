use Rattle.std.proofs.Common.{◌≡◌, ℕ, length, slice_index_or}
use Rattle.std.specs.Prelude.{◌⊎◌}
use Rattle.project_model.specs.Nesting.{stack_rank_in}
use Rattle.project_model.proofs.graph.stack_ranks.Given as goal

abbrev pub invariant-loop-turn : goal.invariant-loop-turn
invariant-loop-turn l =
    ((i : ℕ) → slice_index_or l.ranks.items i 1 ≡ stack_rank_in l._turn l.project i)
    × (((l._turn ≡ 0) × (length l.ranks.items ≡ 0)) ⊎ (length l.ranks.items ≡ length l.project.comps))
