-- What a call of a pass finds.
use Rattle.std.specs.Prelude.{ℕ, ◌≡◌, Bool, true, false, List, [], ◌∷◌, ◌++◌, length, Option, Result, Ok, Err}
use Rattle.cache_core.specs.declared.entry.Entry.{Entry}
use Rattle.compute_cache.specs.declared.hold.Hold.{Hold}
use Rattle.compute_cache.specs.declared.found.Call.{Call}
use Rattle.compute_cache.specs.declared.found.Found.{Found}
use Rattle.compute_cache.specs.declared.found.Found.TheVariants.{Hit, Start, Pending, NotCached}
use Rattle.compute_cache.specs.State.{entry_of}
use Rattle.compute_cache.specs.Acts.{act_for, act_of, IsMeant, is_pending}
use Rattle.compute_cache.specs.Turned.{IsChosen}
use Rattle.compute_cache.specs.Passes.{CachePass, Called, Started, started_at, held_at, turns}

-- the receipt and the turn that come of what was found
abbrev pub holds_by : {V : Type 0} → ℕ → ℕ → ℕ → Found V → List Hold
holds_by place class key (Hit serial value) = held_at place class key serial ∷ []
holds_by place class key Start = []
holds_by place class key (Pending owner) = []
holds_by place class key NotCached = []

abbrev pub turns_by : {V : Type 0} → ℕ → ℕ → ℕ → Found V → List Started
turns_by place class key (Hit serial value) = []
turns_by place class key Start = started_at place class key ∷ []
turns_by place class key (Pending owner) = []
turns_by place class key NotCached = []

-- no entry was made
pub record Refused {S : Type 0} (budget : ℕ) (old new : CachePass S) : Type 0 where
  pub before : List Entry
  pub called : Called budget old new before []
  pub receipts : new.receipts ≡ old.receipts
  pub turns_are : turns new ≡ turns old

module _ {S V : Type 0} (meaning : ℕ → ℕ → Option V) (budget : ℕ) (call : Call) (wait : Bool) (class key : ℕ) (old new : CachePass S) where
  -- one entry was made, at this place: the one that the row there was calls for
  pub record FoundAt (at : ℕ) (found : Found V) : Type 0 where
    pub before : List Entry
    pub called : Called budget old new before (entry_of old.number class key (act_of found) ∷ [])
    pub at_is : at ≡ length before
    pub chosen : IsChosen (act_for call) budget before class key (act_of found)
    pub waits : wait ≡ true → is_pending (act_of found) ≡ false
    pub meant : IsMeant (meaning class key) found
    pub receipts : new.receipts ≡ old.receipts ++ holds_by at class key found
    pub turns_are : turns new ≡ turns old ++ turns_by at class key found

  abbrev pub IsFound : {E : Type 0} → Result (ℕ × Found V) E → Type 0
  IsFound (Ok found) = FoundAt found.0 found.1
  IsFound (Err refused) = Refused budget old new
