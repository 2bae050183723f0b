-- The worlds and strengths that a row is drawn from.
use Rattle.std.specs.Prelude.{ℕ, ◌-◌, ◌≤◌, ◌<◌, List, length, map, slice_index_or}
use Rattle.std.specs.Borrow.{Bor}
use Rattle.argb_world.specs.Picture.{Picture}
use Rattle.comp_stack.specs.Stack.{Plane}
use Rattle.comp_stack.specs.Layers.{plane_of}

abbrev pub planes_in : List (Bor Picture) → List Plane
planes_in worlds = map (λ world. plane_of world.now) worlds

-- the first strength is that of echo 1
abbrev pub strength_in : List ℕ → ℕ → ℕ
strength_in strengths k = slice_index_or strengths (k - 1) 0

-- all are parts of 10000
abbrev pub AreParts : List ℕ → Type 0
AreParts strengths = (k : ℕ) → k < length strengths → slice_index_or strengths k 0 ≤ 10000
