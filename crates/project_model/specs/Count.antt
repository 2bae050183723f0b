-- How many layers there are in all.
use Rattle.std.specs.Prelude.{ℕ, ◌+◌, List, [], ◌∷◌, length}
use Rattle.project_model.specs.declared.comp.Comp.{Comp}

abbrev pub layer_count : List Comp → ℕ
layer_count [] = 0
layer_count (comp ∷ comps) = length comp.layers + layer_count comps
