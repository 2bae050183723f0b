-- How a pass is kept: in its seat, with its number and its count.
use Rattle.std.specs.Prelude.{ℕ, ◌≡◌, List, [], ◌∷◌, Option, Some, None}
use Rattle.atomic_table.specs.declared.shared.Seat.{Seat}
use Rattle.cache_core.specs.declared.entry.Entry.{Entry}
use Rattle.turn_lock.specs.Entries.{Begins, entries_of}
use Rattle.turn_lock.specs.Lock.{Pass}
use Rattle.turn_lock.specs.declared.view.Stage.{Stage}
use Rattle.turn_lock.specs.declared.view.Stage.TheVariants.{Spent, Free, Holds, Joined}
use Rattle.turn_lock.specs.declared.view.View.{View}

-- the history that a pass took, while it holds the state
abbrev pub taken_in : Stage → Option (List Entry)
taken_in Spent = None
taken_in Free = None
taken_in (Holds taken) = Some taken
taken_in (Joined before other number mine) = None

module _ {S : Type 0} where
  -- what a pass has in hand between calls: nothing, or the empty slot of a state whose history began with what it had
  -- seen, and had of it just its own entries
  abbrev pub HasHand : Stage → ℕ → List Entry → List Entry → List (ℕ × Option S) → Type 0
  HasHand Spent number seen mine hand = ⊥
  HasHand Free number seen mine hand = hand ≡ []
  HasHand (Holds taken) number seen mine hand = (hand ≡ (0, None) ∷ []) × Begins seen taken × (entries_of number taken ≡ mine)
  HasHand (Joined before other number' mine') number seen mine hand = ⊥

  abbrev pub pass_of : Seat (Option S) (View S) → Pass S
  pass_of seat = record {
    id = seat.table_id;
    origin = seat.me.0.origin;
    number = seat.me.0.number;
    seen = seat.me.0.seen;
    mine = seat.me.0.mine;
    taken = taken_in seat.me.0.stage;
    made = seat.me.0.made;
    joined = seat.me.0.joined;
  }

  -- what the pass has seen is legal, and has its own entries
  pub record IsPass (legal : S → List Entry → Type 0) (seat : Seat (Option S) (View S)) (number made : ℕ) : Type 0 where
    pub number_is : number ≡ seat.me.0.number
    pub made_is : made ≡ seat.me.0.made
    pub legal_is : (origin : S) → seat.me.0.origin ≡ Some origin → legal origin seat.me.0.seen
    pub own : entries_of seat.me.0.number seat.me.0.seen ≡ seat.me.0.mine
    pub hand : HasHand seat.me.0.stage seat.me.0.number seat.me.0.seen seat.me.0.mine seat.me.1
