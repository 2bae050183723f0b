-- What the calls of a cache answer.
use Rattle.std.specs.Prelude.{ℕ, ◌≡◌, ◌≤◌, Bool, true, false, List, [], ◌∷◌, ◌++◌, length, Result, Ok, Err, ⊤}
use Rattle.cache_core.specs.declared.entry.Entry.{Entry}
use Rattle.cache_core.specs.declared.entry.Act.{Act}
use Rattle.cache_core.specs.declared.entry.Act.TheVariants.{Start, Hit, Pending, NotCached}
use Rattle.compute_cache.specs.declared.classes.ClassId.{ClassId}
use Rattle.compute_cache.specs.declared.error.CacheError.{CacheError}
use Rattle.compute_cache.specs.declared.error.CacheError.TheVariants.{NameTaken, ClassesFull, Memory, NotRegistered, Pending as IsPending, NotCached as IsNotCached}
use Rattle.compute_cache.specs.declared.found.Call.{Call}
use Rattle.compute_cache.specs.declared.found.Call.TheVariants.{Begin}
use Rattle.compute_cache.specs.declared.receipt.Begun.{Begun}
use Rattle.compute_cache.specs.declared.receipt.Begun.TheVariants.{Hit as GotReceipt, Turn as GotTurn}
use Rattle.compute_cache.specs.State.{Plain, entry_of}
use Rattle.compute_cache.specs.Acts.{act_for, is_pending}
use Rattle.compute_cache.specs.Turned.{IsChosen}
use Rattle.compute_cache.specs.Passes.{CachePass, Called, turns}
use Rattle.compute_cache.specs.Found.{Refused}
use Rattle.compute_cache.specs.Suite.{Suite, ReceiptOf, TurnOf, IsTurnOf, Finished, Abandoned, hold_of, start_of, budget_of}

module _ {V K : Type 0} (cache : Suite (Plain V K)) (call : Call) (wait : Bool) (class : ClassId) (key : ℕ) (old new : CachePass (Plain V K)) where
  -- one entry was made, at this place, with this act: the one that the row there calls for, in the core that the history
  -- before it leaves. A call that waits makes no Pending
  pub record Notes (at : ℕ) (act : Act) : Type 0 where
    pub before : List Entry
    pub called : Called (budget_of cache) old new before (entry_of old.number class.0 key act ∷ [])
    pub at_is : at ≡ length before
    pub chosen : IsChosen (act_for call) (budget_of cache) before class.0 key act
    pub waits : wait ≡ true → is_pending act ≡ false

  -- a receipt for the value that is there, which is open from now on
  pub record Hits (receipt : ReceiptOf V K) : Type 0 where
    pub notes : Notes receipt.place (Hit receipt.serial)
    pub lock : receipt.lock ≡ cache.lock
    pub pass : receipt.pass ≡ old.number
    pub class_is : receipt.class ≡ class.0
    pub key_is : receipt.key ≡ key
    pub receipts : new.receipts ≡ old.receipts ++ hold_of receipt ∷ []
    pub turns_are : turns new ≡ turns old

  -- the turn to compute the value
  pub record Begins (turn : TurnOf V K) : Type 0 where
    pub notes : Notes turn.place Start
    pub lock : turn.lock ≡ cache.lock
    pub pass : turn.pass ≡ old.number
    pub class_is : turn.class ≡ class.0
    pub key_is : turn.key ≡ key
    pub receipts : new.receipts ≡ old.receipts
    pub turns_are : turns new ≡ turns old ++ start_of turn ∷ []

  -- nothing but the entry
  pub record Finds (at : ℕ) (act : Act) : Type 0 where
    pub notes : Notes at act
    pub receipts : new.receipts ≡ old.receipts
    pub turns_are : turns new ≡ turns old

  -- the cache has no such class, and nothing was done
  pub record IsUnknown (named : ClassId) : Type 0 where
    pub class_is : named ≡ class
    pub none : length cache.classes ≤ class.0
    pub pass : new ≡ old

  -- why a call was refused, and what it made
  abbrev pub IsCause : CacheError → Type 0
  IsCause (NameTaken id) = ⊥
  IsCause ClassesFull = ⊥
  IsCause Memory = Refused (budget_of cache) old new
  IsCause (NotRegistered named) = IsUnknown named
  IsCause (IsPending owner at) = Finds at (Pending owner)
  IsCause (IsNotCached at) = Finds at NotCached

  abbrev pub IsBegun : Result (Begun K V) CacheError → Type 0
  IsBegun (Ok (GotReceipt receipt)) = Hits receipt
  IsBegun (Ok (GotTurn turn)) = Begins turn
  IsBegun (Err error) = IsCause error

  abbrev pub IsCheckedOut : Result (ReceiptOf V K) CacheError → Type 0
  IsCheckedOut (Ok receipt) = Hits receipt
  IsCheckedOut (Err error) = IsCause error

-- what follows on `begin`: the receipt that it gave, or the turn's end: a value that was put in, or a turn that was
-- given up where there was no memory
module _ {V K : Type 0} (cache : Suite (Plain V K)) (size_of : V → ℕ) (middle new : CachePass (Plain V K)) where
  abbrev pub IsTurnEnded : TurnOf V K → Result (ReceiptOf V K) CacheError → Type 0
  IsTurnEnded turn (Ok receipt) = Finished cache size_of middle new turn receipt
  IsTurnEnded turn (Err error) = (error ≡ Memory) × Abandoned cache middle new turn

  abbrev pub IsEnded : Result (Begun K V) CacheError → Result (ReceiptOf V K) CacheError → Type 0
  IsEnded (Ok (GotReceipt receipt)) result = (result ≡ Ok receipt) × (new ≡ middle)
  IsEnded (Ok (GotTurn turn)) result = IsTurnEnded turn result
  IsEnded (Err error) result = (result ≡ Err error) × (new ≡ middle)

-- `begin`, and then a value computed in the turn
pub record IsComputed {V K : Type 0} (cache : Suite (Plain V K)) (size_of : V → ℕ) (wait : Bool) (class : ClassId) (key : ℕ) (old new : CachePass (Plain V K)) (result : Result (ReceiptOf V K) CacheError) : Type 0 where
  pub begun : Result (Begun K V) CacheError
  pub middle : CachePass (Plain V K)
  pub begins : IsBegun cache Begin wait class key old middle begun
  pub ends : IsEnded cache size_of middle new begun result

-- a turn that was given is one of the pass, on this class and key
abbrev pub IsGivenTurn : {V K : Type 0} → Suite (Plain V K) → CachePass (Plain V K) → ClassId → ℕ → Begun K V → Type 0
IsGivenTurn cache pass class key (GotReceipt receipt) = ⊤
IsGivenTurn cache pass class key (GotTurn turn) = IsTurnOf cache pass turn × (turn.class ≡ class.0) × (turn.key ≡ key)
