-- What contracts see of a cache, of receipts and of turns.
use Rattle.std.specs.Prelude.{ℕ, ◌≡◌, ◌+◌, true, List, [], ◌∷◌, ◌++◌, length, nat_eq, Some, Result, Ok, Err}
use Rattle.std.specs.List.{list_any}
use Rattle.cache_core.specs.Core.{Core}
use Rattle.cache_core.specs.Rows.{state_of}
use Rattle.cache_core.specs.Laws.{Leaves}
use Rattle.cache_core.specs.declared.row.State.TheVariants.{Live}
use Rattle.cache_core.specs.declared.entry.Entry.{Entry}
use Rattle.cache_core.specs.declared.entry.Act.TheVariants.{Finish, Abandon}
use Rattle.turn_lock.specs.Entries.{entries_of, longer}
use Rattle.turn_lock.specs.Lock.{Lock}
use Rattle.compute_cache.specs.declared.hold.Hold.{Hold}
use Rattle.compute_cache.specs.State.{Plain, entry_of}
use Rattle.compute_cache.specs.Passes.{CachePass, Started, IsOfLock, started_at, held_at, is_among, is_held, turns, without_turn, IsLater, Called, CalledAndEvicted}

-- a cache: which lock it is, with the budget and the job that it was started with, and the names of its classes
pub record Suite (S : Type 0) : Type 0 where
  pub lock : Lock S
  pub classes : List (List ℕ)

-- a receipt: its cache, the number of its pass, the place of its entry, its class, key and serial, and its value
pub record ReceiptOf (V K : Type 0) : Type 0 where
  pub lock : Lock (Plain V K)
  pub pass : ℕ
  pub place : ℕ
  pub class : ℕ
  pub key : ℕ
  pub serial : ℕ
  pub value : V

-- a turn: its cache, the number of its pass, the place of its entry, its class and key
pub record TurnOf (V K : Type 0) : Type 0 where
  pub lock : Lock (Plain V K)
  pub pass : ℕ
  pub place : ℕ
  pub class : ℕ
  pub key : ℕ

module _ {V K : Type 0} where
  -- the job and the budget of a cache
  abbrev pub job_of : Suite (Plain V K) → K
  job_of cache = cache.lock.origin.job

  abbrev pub budget_of : Suite (Plain V K) → ℕ
  budget_of cache = cache.lock.origin.cache.budget

  -- the pass is of this cache
  abbrev pub IsOf : Suite (Plain V K) → CachePass (Plain V K) → Type 0
  IsOf cache pass = IsOfLock cache.lock pass

  -- a receipt and a turn, as their pass lists them
  abbrev pub hold_of : ReceiptOf V K → Hold
  hold_of receipt = held_at receipt.place receipt.class receipt.key receipt.serial

  abbrev pub start_of : TurnOf V K → Started
  start_of turn = started_at turn.place turn.class turn.key

  -- the receipt is of this cache, and open in this pass
  pub record IsReceiptOf (cache : Suite (Plain V K)) (of : CachePass (Plain V K)) (receipt : ReceiptOf V K) : Type 0 where
    pub lock : receipt.lock ≡ cache.lock
    pub pass : receipt.pass ≡ of.number
    pub held : is_held (hold_of receipt) of.receipts ≡ true

  -- the turn is of this cache, and one of this pass
  pub record IsTurnOf (cache : Suite (Plain V K)) (of : CachePass (Plain V K)) (turn : TurnOf V K) : Type 0 where
    pub lock : turn.lock ≡ cache.lock
    pub pass : turn.pass ≡ of.number
    pub among : is_among (start_of turn) (turns of) ≡ true

  -- the opening pass after a split, and after it took in another
  abbrev pub splitting : CachePass (Plain V K) → CachePass (Plain V K)
  splitting pass = record pass { made = pass.made + 1 }

  abbrev pub joining : CachePass (Plain V K) → CachePass (Plain V K) → CachePass (Plain V K)
  joining other pass = record pass { seen = longer pass.seen other.seen; joined = pass.joined + 1 }

  -- a pass that was just split off
  pub record IsSplitFrom (old new : CachePass (Plain V K)) : Type 0 where
    pub number : new.number ≡ old.made
    pub seen : new.seen ≡ old.seen
    pub mine : new.mine ≡ []
    pub receipts : new.receipts ≡ []
    pub turns_are : turns new ≡ []
    pub fresh : entries_of new.number new.seen ≡ []

  -- the pass computes nothing and holds nothing
  pub record IsClearPass (pass : CachePass (Plain V K)) : Type 0 where
    pub turns_are : turns pass ≡ []
    pub receipts : pass.receipts ≡ []

  -- the pass put in a value in its turn, and holds it
  pub record Finished (cache : Suite (Plain V K)) (size_of : V → ℕ) (old new : CachePass (Plain V K)) (turn : TurnOf V K) (receipt : ReceiptOf V K) : Type 0 where
    pub before : List Entry
    pub called : CalledAndEvicted (budget_of cache) old new before (entry_of old.number turn.class turn.key (Finish receipt.serial (size_of receipt.value)))
    pub serial_is : receipt.serial ≡ length before
    pub turns_are : turns new ≡ without_turn turn.class turn.key (turns old)
    pub receipts : new.receipts ≡ old.receipts ++ hold_of receipt ∷ []
    pub lock : receipt.lock ≡ cache.lock
    pub pass : receipt.pass ≡ old.number
    pub place_is : receipt.place ≡ receipt.serial
    pub class_is : receipt.class ≡ turn.class
    pub key_is : receipt.key ≡ turn.key

  -- the pass gave its turn up
  pub record Abandoned (cache : Suite (Plain V K)) (old new : CachePass (Plain V K)) (turn : TurnOf V K) : Type 0 where
    pub before : List Entry
    pub called : Called (budget_of cache) old new before (entry_of old.number turn.class turn.key Abandon ∷ [])
    pub turns_are : turns new ≡ without_turn turn.class turn.key (turns old)
    pub receipts : new.receipts ≡ old.receipts

  -- the pass has one receipt more, which is open, of this class and key
  pub record Opens (cache : Suite (Plain V K)) (class key : ℕ) (old new : CachePass (Plain V K)) (receipt : ReceiptOf V K) : Type 0 where
    pub later : IsLater old new
    pub receipts : new.receipts ≡ old.receipts ++ hold_of receipt ∷ []
    pub turns_are : turns new ≡ turns old
    pub lock : receipt.lock ≡ cache.lock
    pub pass : receipt.pass ≡ new.number
    pub class_is : receipt.class ≡ class
    pub key_is : receipt.key ≡ key

  -- its turns and receipts are as they were
  pub record IsAsBefore (old new : CachePass (Plain V K)) : Type 0 where
    pub later : IsLater old new
    pub receipts : new.receipts ≡ old.receipts
    pub turns_are : turns new ≡ turns old

  abbrev pub LeavesReceipt : {E : Type 0} → Suite (Plain V K) → ℕ → ℕ → CachePass (Plain V K) → CachePass (Plain V K) → Result (ReceiptOf V K) E → Type 0
  LeavesReceipt cache class key old new (Ok receipt) = Opens cache class key old new receipt
  LeavesReceipt cache class key old new (Err error) = IsAsBefore old new

  -- in every legal history with the pass's own entries, the row of an open receipt is Live with its serial, and the pass
  -- is among its holders
  abbrev pub ReceiptsAreLive : CachePass (Plain V K) → Type 0
  ReceiptsAreLive pass =
      (hold : Hold) → is_held hold pass.receipts ≡ true
      → (budget : ℕ) (history : List Entry) (core : Core) → Leaves budget history core → entries_of pass.number history ≡ pass.mine
      → (size : ℕ) × (holders : List ℕ) × (state_of hold.class hold.key core.rows ≡ Some (Live hold.serial size holders)) × (list_any (nat_eq pass.number) holders ≡ true)
