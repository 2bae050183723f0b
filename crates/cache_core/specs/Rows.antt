-- The rows of a cache, the least recently touched first. A row is of a class and key, and either
-- Running with its owner pass, or Live with a serial, a size and its holders.
use Rattle.std.specs.Prelude.{ℕ, ◌≡◌, Bool, false, ◌&&◌, List, [], ◌∷◌, ◌++◌, Option, None, nat_eq, length, find, sum_by, option_map, ⊤}
use Rattle.std.specs.List.{list_any}
use Rattle.std.specs.Option.{option_map_or}
use Rattle.cache_core.specs.Holds.{without_first, without_one}
use Rattle.cache_core.specs.declared.row.Row.{Row}
use Rattle.cache_core.specs.declared.row.State.{State}
use Rattle.cache_core.specs.declared.row.State.TheVariants.{Running, Live}

-- Running with this owner
abbrev pub is_running : ℕ → State → Bool
is_running pass (Running owner) = nat_eq owner pass
is_running pass (Live serial size holders) = false

-- Live with this serial
abbrev pub is_live : ℕ → State → Bool
is_live wanted (Running owner) = false
is_live wanted (Live serial size holders) = nat_eq serial wanted

-- Live, and held by this pass
abbrev pub is_held_by : ℕ → State → Bool
is_held_by pass (Running owner) = false
is_held_by pass (Live serial size holders) = list_any (nat_eq pass) holders

-- Live with no holder
abbrev pub is_idle : State → Bool
is_idle (Running owner) = false
is_idle (Live serial size holders) = nat_eq (length holders) 0

-- what a row adds to the live bytes
abbrev pub size_of : State → ℕ
size_of (Running owner) = 0
size_of (Live serial size holders) = size

-- with one hold of the pass more
abbrev pub held_by : ℕ → State → State
held_by pass (Running owner) = Running owner
held_by pass (Live serial size holders) = Live serial size (holders ++ pass ∷ [])

-- with one hold of the pass less
abbrev pub released_by : ℕ → State → State
released_by pass (Running owner) = Running owner
released_by pass (Live serial size holders) = Live serial size (without_one pass holders)

-- the row is that of this class and key
abbrev pub is_named : ℕ → ℕ → Row → Bool
is_named class key row = nat_eq row.class class && nat_eq row.key key

-- the state of the row of a class and key, if there is one
abbrev pub state_of : ℕ → ℕ → List Row → Option State
state_of class key rows = option_map (λ row. row.state) (find (is_named class key) rows)

-- the rows without that of a class and key
abbrev pub without : ℕ → ℕ → List Row → List Row
without class key rows = without_first (is_named class key) rows

-- the row of a class and key in this state
abbrev pub row_in : ℕ → ℕ → State → Row
row_in class key state = record { class = class; key = key; state = state }

-- the row of a class and key is changed, and goes last
abbrev pub touched : ℕ → ℕ → (State → State) → List Row → List Row
touched class key change rows =
    option_map_or (λ state. without class key rows ++ row_in class key (change state) ∷ []) (state_of class key rows) rows

-- the first idle row
abbrev pub first_idle : List Row → Option Row
first_idle rows = find (λ row. is_idle row.state) rows

-- the sizes of the Live rows, added up
abbrev pub live_bytes : List Row → ℕ
live_bytes rows = sum_by (λ row. size_of row.state) rows

-- no two rows have the same class and key
abbrev pub AreDistinct : List Row → Type 0
AreDistinct [] = ⊤
AreDistinct (row ∷ rows) = (state_of row.class row.key rows ≡ None) × AreDistinct rows
