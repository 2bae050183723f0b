-- What contracts see of a lock and of a pass.
use Rattle.std.specs.Prelude.{ℕ, ◌≡◌, ◌+◌, List, [], Option, Some, None}
use Rattle.atomic_table.specs.Seated.{TableId}
use Rattle.cache_core.specs.declared.entry.Entry.{Entry}
use Rattle.turn_lock.specs.Entries.{entries_of, longer}

-- which lock it is, and the state that it was made with: its budget and its name are the lock's
pub record Lock (S : Type 0) : Type 0 where
  pub id : TableId
  pub origin : S

-- a pass: its lock, by what no other lock shares with it and by the state that it was made with; its number, the history that it has seen, its own entries, and the history that it took, while it
-- holds the state. The opening pass, which is number 0, counts the passes made and the passes joined
pub record Pass (S : Type 0) : Type 0 where
  pub id : TableId
  pub origin : Option S
  pub number : ℕ
  pub seen : List Entry
  pub mine : List Entry
  pub taken : Option (List Entry)
  pub made : ℕ
  pub joined : ℕ

module _ {S : Type 0} where
  -- the pass is of this lock
  pub record IsOf (lock : Lock S) (pass : Pass S) : Type 0 where
    pub same : pass.id ≡ lock.id
    pub from : pass.origin ≡ Some lock.origin

  -- the opening pass of a lock that was just made
  abbrev pub opening_of : Lock S → Pass S
  opening_of lock = record { id = lock.id; origin = Some lock.origin; number = 0; seen = []; mine = []; taken = None; made = 1; joined = 0 }

  -- a pass that took the state, whose history is this
  abbrev pub taking : List Entry → Pass S → Pass S
  taking history pass = record pass { taken = Some history }

  -- a pass that put the state back, whose history is this
  abbrev pub putting : List Entry → Pass S → Pass S
  putting history pass = record pass { seen = history; mine = entries_of pass.number history; taken = None }

  -- the opening pass after a split, and the new pass
  abbrev pub splitting : Pass S → Pass S
  splitting pass = record pass { made = pass.made + 1 }

  abbrev pub split_from : Pass S → Pass S
  split_from pass = record { id = pass.id; origin = pass.origin; number = pass.made; seen = pass.seen; mine = []; taken = None; made = 0; joined = 0 }

  -- the opening pass after it took in another
  abbrev pub joining : Pass S → Pass S → Pass S
  joining other pass = record pass { seen = longer pass.seen other.seen; joined = pass.joined + 1 }
