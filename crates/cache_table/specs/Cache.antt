-- What contracts see of a table: its history, its rows with their values, and room for more history.
use Rattle.std.specs.Prelude.{ℕ, ◌≡◌, ◌+◌, ◌<◌, ◌≤◌, ◌⊎◌, Bool, true, false, List, [], ◌∷◌, ◌++◌, length, map, sum_by, Option, Some, is_some, ⊤}
use Rattle.std.specs.List.{AllByRecursion}
use Rattle.cache_core.specs.Rows.{state_of}
use Rattle.cache_core.specs.Core.{Core}
use Rattle.cache_core.specs.History.{replay_of, history_limit}
use Rattle.cache_core.specs.declared.entry.Entry.{Entry}
use Rattle.cache_core.specs.declared.entry.Act.{Act}
use Rattle.cache_core.specs.declared.entry.Act.TheVariants.{Start, Hit, Pending, NotCached, Finish, Abandon, Give, Evict}
use Rattle.cache_core.specs.declared.row.State.{State}
use Rattle.cache_core.specs.declared.row.State.TheVariants.{Running, Live}
use Rattle.cache_table.specs.Kept.{Kept, HasValue, rows_left}

-- a budget, a history, the rows with their values, the least recently touched first, and how many entries more
-- the history has room for
pub record Cache (V : Type 0) : Type 0 where
  pub budget : ℕ
  pub history : List Entry
  pub rows : List (Kept V)
  pub spare : ℕ

-- how many entries must have room for a row: for a Running one its Finish or Abandon, its Give and its Evict; for a
-- Live one a Give for each hold, and its Evict
abbrev pub need_of : State → ℕ
need_of (Running owner) = 3
need_of (Live serial size holders) = length holders + 1

-- Live, whatever the serial
abbrev pub is_any_live : State → Bool
is_any_live (Running owner) = false
is_any_live (Live serial size holders) = true

-- an Evict by the pass
abbrev pub IsEvictBy : ℕ → Entry → Type 0
IsEvictBy pass entry = (entry.pass ≡ pass) × ((serial : ℕ) × (entry.act ≡ Evict serial))

-- an act that changes no row
abbrev pub IsNote : Act → Type 0
IsNote Start = ⊥
IsNote (Hit serial) = ⊥
IsNote (Pending owner) = ⊤
IsNote NotCached = ⊤
IsNote (Finish serial size) = ⊥
IsNote Abandon = ⊥
IsNote (Give serial) = ⊥
IsNote (Evict serial) = ⊥

module _ {V : Type 0} where
  -- the core that it stands for
  abbrev pub core_of : Cache V → Core
  core_of cache = record { budget = cache.budget; count = length cache.history; rows = map (λ kept. kept.row) cache.rows }

  -- the state of the row of a class and key
  abbrev pub state_at : ℕ → ℕ → Cache V → Option State
  state_at class key cache = state_of class key (core_of cache).rows

  -- how many entries must have room
  abbrev pub needs : List (Kept V) → ℕ
  needs rows = sum_by (λ kept. need_of kept.row.state) rows

  -- a row has a value exactly where it is Live
  abbrev pub IsValued : Kept V → Type 0
  IsValued kept = is_any_live kept.row.state ≡ is_some kept.value

  -- the history is legal, leaves the core and is below the limit; each Live row has its value; and there is room for
  -- all that must follow
  pub record IsKept (cache : Cache V) : Type 0 where
    pub legal : replay_of cache.budget cache.history ≡ Some (core_of cache)
    pub few : length cache.history < history_limit
    pub valued : AllByRecursion IsValued cache.rows
    pub room : needs cache.rows ≤ cache.spare

  -- no value is new
  abbrev pub HasNoNewValue : Cache V → Cache V → Type 0
  HasNoNewValue old new = (class key serial : ℕ) (value : V) → HasValue class key serial value new.rows → HasValue class key serial value old.rows

  -- one value may be new: that of this class, key and serial
  abbrev pub HasOneNewValue : Cache V → Cache V → ℕ → ℕ → ℕ → V → Type 0
  HasOneNewValue old new class key serial value =
      (c k s : ℕ) (v : V) → HasValue c k s v new.rows
      → HasValue c k s v old.rows ⊎ ((c ≡ class) × (k ≡ key) × (s ≡ serial) × (v ≡ value))

  -- as before, but for room
  pub record IsSame (old new : Cache V) : Type 0 where
    pub budget : new.budget ≡ old.budget
    pub history : new.history ≡ old.history
    pub rows : new.rows ≡ old.rows
    pub spare : old.spare ≤ new.spare

  -- one entry more
  pub record Adds (old new : Cache V) (entry : Entry) : Type 0 where
    pub budget : new.budget ≡ old.budget
    pub history : new.history ≡ old.history ++ entry ∷ []

  -- one entry more, which leaves these rows, and then evictions by its pass
  pub record AddsAndEvicts (old new : Cache V) (entry : Entry) (left : List (Kept V)) : Type 0 where
    pub budget : new.budget ≡ old.budget
    pub evicts : List Entry
    pub history : new.history ≡ old.history ++ entry ∷ evicts
    pub each : AllByRecursion (IsEvictBy entry.pass) evicts
    pub rows : new.rows ≡ rows_left evicts left
