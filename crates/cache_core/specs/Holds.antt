-- Passes that hold a value, a pass as often as it holds it.
use Rattle.std.specs.Prelude.{ℕ, Bool, List, [], ◌∷◌, nat_eq, if◌then◌else◌}

-- the items without the first that passes the test
abbrev pub without_first : {X : Type 0} → (X → Bool) → List X → List X
without_first test [] = []
without_first test (x ∷ xs) = if test x then xs else x ∷ without_first test xs

-- the holders with one hold of the pass less
abbrev pub without_one : ℕ → List ℕ → List ℕ
without_one pass holders = without_first (nat_eq pass) holders
