-- What a call of a pass at the lock of a cache answers.
use Rattle.std.specs.Prelude.{ℕ, ◌≡◌, Bool, true, false, List, [], ◌∷◌, length, Option, Result, Ok, Err}
use Rattle.cache_core.specs.declared.entry.Entry.{Entry}
use Rattle.turn_lock.specs.Lock.{Pass}
use Rattle.compute_cache.specs.declared.found.Call.{Call}
use Rattle.compute_cache.specs.declared.found.Found.{Found}
use Rattle.compute_cache.specs.State.{entry_of}
use Rattle.compute_cache.specs.Acts.{act_for, act_of, IsMeant, is_pending}
use Rattle.compute_cache.specs.Turned.{Turned, IsChosen}

module _ {S V : Type 0} (meaning : ℕ → ℕ → Option V) (budget : ℕ) (call : Call) (wait : Bool) (class key : ℕ) (old new : Pass S) where
  -- one entry was made, at this place: the one that the row there was calls for, and none that says to wait where the
  -- call waits
  pub record Asked (at : ℕ) (found : Found V) : Type 0 where
    pub before : List Entry
    pub turned : Turned budget old new before (entry_of old.number class key (act_of found) ∷ [])
    pub at_is : at ≡ length before
    pub chosen : IsChosen (act_for call) budget before class key (act_of found)
    pub waits : wait ≡ true → is_pending (act_of found) ≡ false
    pub meant : IsMeant (meaning class key) found

  -- where there was no memory, none was made
  abbrev pub IsAsked : {E : Type 0} → Result (ℕ × Found V) E → Type 0
  IsAsked (Ok asked) = Asked asked.0 asked.1
  IsAsked (Err refused) = (before : List Entry) × Turned budget old new before []
