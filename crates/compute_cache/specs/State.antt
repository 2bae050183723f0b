-- What the lock of a cache keeps.
use Rattle.std.specs.Prelude.{ℕ, ◌≡◌, ◌∷◌, ◌++◌, List, Option, Some}
use Rattle.std.specs.List.{AllByRecursion}
use Rattle.cache_core.specs.declared.entry.Entry.{Entry}
use Rattle.cache_core.specs.declared.entry.Act.{Act}
use Rattle.cache_core.specs.Core.{IsSettled}
use Rattle.cache_table.specs.Cache.{Cache, core_of, IsKept, IsEvictBy}
use Rattle.cache_table.specs.Kept.{HasValue}

-- the rows with their history, and the job whose values they are
pub record Plain (V K : Type 0) : Type 0 where
  pub cache : Cache V
  pub job : K

-- the entry of a pass on a class and key
abbrev pub entry_of : ℕ → ℕ → ℕ → Act → Entry
entry_of pass class key act = record { pass = pass; class = class; key = key; act = act }

-- each value that is kept is what the job means by its class and key
abbrev pub AreRight : {V : Type 0} → (ℕ → ℕ → Option V) → Cache V → Type 0
AreRight {V = V} meaning cache = (class key serial : ℕ) (value : V) → HasValue class key serial value cache.rows → meaning class key ≡ Some value

module _ {V K : Type 0} where
  -- the history is legal and leaves just these rows, which are settled
  pub record IsSound (state : Plain V K) : Type 0 where
    pub kept : IsKept state.cache
    pub settled : IsSettled (core_of state.cache)

  -- the history goes on by these entries
  pub record Goes (old new : Plain V K) (entries : List Entry) : Type 0 where
    pub job : new.job ≡ old.job
    pub budget : new.cache.budget ≡ old.cache.budget
    pub history : new.cache.history ≡ old.cache.history ++ entries

  -- by one entry, and then by evictions of its pass
  pub record GoesAndEvicts (old new : Plain V K) (entry : Entry) : Type 0 where
    pub evicts : List Entry
    pub each : AllByRecursion (IsEvictBy entry.pass) evicts
    pub goes : Goes old new (entry ∷ evicts)
