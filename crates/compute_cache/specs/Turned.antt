-- One turn of a pass at the lock of a cache.
use Rattle.std.specs.List.{AllByRecursion}
use Rattle.cache_table.specs.Cache.{IsEvictBy}
use Rattle.std.specs.Prelude.{ℕ, ◌≡◌, ◌<◌, List, ◌∷◌, ◌++◌, Option, None}
use Rattle.cache_core.specs.Rows.{state_of}
use Rattle.cache_core.specs.Core.{Core, IsSettled}
use Rattle.cache_core.specs.Laws.{Leaves}
use Rattle.cache_core.specs.declared.entry.Entry.{Entry}
use Rattle.cache_core.specs.declared.entry.Act.{Act}
use Rattle.cache_core.specs.declared.row.State.{State}
use Rattle.turn_lock.specs.Entries.{Begins, AreOf, entries_of, holds_taken, holds_given}
use Rattle.turn_lock.specs.Lock.{Lock, Pass, IsOf, putting}

-- the history is legal, and its core is settled
abbrev pub IsSettledHistory : ℕ → List Entry → Type 0
IsSettledHistory budget history = (core : Core) × Leaves budget history core × IsSettled core

-- by the state of the row that the history leaves of the class and key, this act is the one to make
abbrev pub IsChosen : (Option State → Act) → ℕ → List Entry → ℕ → ℕ → Act → Type 0
IsChosen choose budget history class key act = (core : Core) × Leaves budget history core × (act ≡ choose (state_of class key core.rows))

-- the pass took the state with a history in which it finds what it has seen and did, and put it back with these
-- entries more, all its own
pub record Turned {S : Type 0} (budget : ℕ) (old new : Pass S) (before entries : List Entry) : Type 0 where
  pub begins : Begins old.seen before
  pub own : entries_of old.number before ≡ old.mine
  pub each : AreOf old.number entries
  pub settled : IsSettledHistory budget (before ++ entries)
  pub pass : new ≡ putting (before ++ entries) old

-- by one entry and evictions
pub record Evicting {S : Type 0} (budget : ℕ) (old new : Pass S) (before : List Entry) (entry : Entry) : Type 0 where
  pub evicts : List Entry
  pub each : AllByRecursion (IsEvictBy entry.pass) evicts
  pub turned : Turned budget old new before (entry ∷ evicts)

-- the pass took the value more often than it gave it back
abbrev pub IsOpen : ℕ → ℕ → ℕ → List Entry → Type 0
IsOpen class key serial mine = holds_given class key serial mine < holds_taken class key serial mine

-- a pass that may have taken turns, in which it did nothing
pub record Waiting {S : Type 0} (lock : Lock S) (old new : Pass S) : Type 0 where
  pub own : IsOf lock new
  pub free : new.taken ≡ None
  pub begins : Begins old.seen new.seen
  pub pass : new ≡ record old { seen = new.seen }
