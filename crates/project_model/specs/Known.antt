-- What the search for the first broken rule is given: it is the same for all places, and takes memory.
use Rattle.std.specs.Prelude.{◌≡◌, ℕ, Bool, false, List, slice_index_or}
use Rattle.project_model.specs.Nesting.{reaches, stack_rank}
use Rattle.project_model.specs.declared.plain.PlainProject.{PlainProject}

-- the list has what the function says of each index, and this elsewhere
abbrev pub Tells : {A : Type 0} → List A → A → (ℕ → A) → Type 0
Tells list other f = (index : ℕ) → slice_index_or list index other ≡ f index

-- which compositions reach themselves, and the ranks of their stacks
pub record IsKnown (project : PlainProject) (loops : List Bool) (ranks : List ℕ) : Type 0 where
  pub loops_told : Tells loops false (λ index. reaches project index index)
  pub ranks_told : Tells ranks 1 (stack_rank project)
