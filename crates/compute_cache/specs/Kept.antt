-- How a pass of a cache is kept: its pass of the lock, and its open receipts with the room for more.
use Rattle.std.specs.Prelude.{◌≡◌, ◌≤◌, length, Some, None}
use Rattle.turn_lock.specs.Entries.{entries_of}
use Rattle.turn_lock.specs.Lock.{Pass}
use Rattle.compute_cache.specs.State.{Plain}
use Rattle.compute_cache.specs.Turned.{IsSettledHistory}
use Rattle.compute_cache.specs.Passes.{CachePass, AreOpen, turns_of}
use Rattle.compute_cache.specs.Room.{Room}

module _ {V K : Type 0} where
  abbrev pub pass_of : Pass (Plain V K) → Room → CachePass (Plain V K)
  pass_of base open_receipts = record {
    id = base.id;
    origin = base.origin;
    number = base.number;
    seen = base.seen;
    mine = base.mine;
    receipts = open_receipts.holds;
    made = base.made;
    joined = base.joined;
  }

  -- the pass does not hold the state; what it has seen is settled; each turn has room for its receipt
  pub record IsKeptPass (base : Pass (Plain V K)) (open_receipts : Room) : Type 0 where
    pub free : base.taken ≡ None
    pub own : entries_of base.number base.seen ≡ base.mine
    pub settled : (origin : Plain V K) → base.origin ≡ Some origin → IsSettledHistory origin.cache.budget base.seen
    pub open_are : AreOpen base.number base.seen base.mine open_receipts.holds
    pub owed : length (turns_of base.number base.seen) ≤ open_receipts.owed
