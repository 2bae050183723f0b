-- The rule of the lock, which holds between any two atomic steps: of its word, of its slot, and of what its passes know.
-- While a pass holds the state the slot is away from home.
use Rattle.std.specs.Prelude.{ℕ, ◌≡◌, ◌+◌, ◌*◌, ◌<◌, ◌≤◌, ◌⊎◌, Bool, true, false, List, [], ◌∷◌, length, count_by, nat_eq, Option, Some, None, ⊤}
use mathlib.Core.Option.{some}
use lib.ListN.{get_elem?}
use Rattle.atomic_table.specs.Table.{State}
use Rattle.cache_core.specs.declared.entry.Entry.{Entry}
use Rattle.cache_core.specs.History.{history_limit}
use Rattle.turn_lock.specs.Entries.{Begins, entries_of, longer}
use Rattle.turn_lock.specs.declared.view.Stage.{Stage}
use Rattle.turn_lock.specs.declared.view.Stage.TheVariants.{Spent, Free, Holds, Joined}
use Rattle.turn_lock.specs.declared.view.View.{View}

-- a view is live until a join spends it
abbrev pub is_live_stage : Stage → Bool
is_live_stage Spent = false
is_live_stage Free = true
is_live_stage (Holds taken) = true
is_live_stage (Joined before other number mine) = true

abbrev pub is_live : {S : Type 0} → View S → Bool
is_live view = is_live_stage view.stage

-- the seat that holds the state, if one does: 1 in the word, and whether it is this seat
abbrev pub held_bit : Option ℕ → ℕ
held_bit None = 0
held_bit (Some holder) = 1

abbrev pub is_holder : Option ℕ → ℕ → Bool
is_holder None seat = false
is_holder (Some holder) seat = nat_eq holder seat

-- what a stage says: a view that holds notes the history that it took, which is the lock's; one that has just taken in
-- another notes what both had seen, and the other's number and entries
abbrev pub FitsStage : List Entry → Bool → List Entry → Stage → Type 0
FitsStage history holds seen Spent = ⊤
FitsStage history holds seen Free = holds ≡ false
FitsStage history holds seen (Holds taken) = (holds ≡ true) × (taken ≡ history)
FitsStage history holds seen (Joined before other number mine) =
    (holds ≡ false) × Begins before seen × Begins other seen × (entries_of number seen ≡ mine)

module _ {S : Type 0} where
  -- what a live view knows: it is of this lock; the history begins with what it has seen; its own entries are all that
  -- either has of its number; and the opening view counts the passes made and joined
  pub record Knows (origin : S) (history : List Entry) (holder : Option ℕ) (made joined seat : ℕ) (view : View S) : Type 0 where
    pub of : view.origin ≡ Some origin
    pub begins : Begins view.seen history
    pub own : entries_of view.number view.seen ≡ view.mine
    pub all : entries_of view.number history ≡ view.mine
    pub stage : FitsStage history (is_holder holder seat) view.seen view.stage
    pub below : view.number < made
    pub counts : view.number ≡ 0 → (view.made ≡ made) × (view.joined ≡ joined)

  -- some live view passes a test
  abbrev pub SomeLive : List (View S) → (View S → Type 0) → Type 0
  SomeLive views P = (seat : ℕ) × (view : View S) × (get_elem? views seat ≡ some view) × (is_live view ≡ true) × P view

  -- The lock's history is legal, and the longest that a live view has seen. The word is twice its length, plus one while
  -- a seat holds; that seat is live. While none holds, the slot is at home with a state of just this history. Live
  -- numbers differ and are below the count made; live views are as many as were made less those joined. Each other
  -- number's entries are clear, and a number not yet made has none
  pub record Kept (legal clear : List Entry → Type 0) (is_state : List Entry → S → Type 0) (origin : S) (table : State (Option S) (View S)) : Type 0 where
    pub history : List Entry
    pub holder : Option ℕ
    pub made : ℕ
    pub joined : ℕ
    pub word : table.words ≡ (2 * length history + held_bit holder) ∷ []
    pub few : length history < history_limit
    pub legal_is : legal history
    pub each : (seat : ℕ) (view : View S) → get_elem? table.views seat ≡ some view → is_live view ≡ true → Knows origin history holder made joined seat view
    pub longest : SomeLive table.views (λ view. view.seen ≡ history)
    pub held_by : (seat : ℕ) → holder ≡ Some seat → (view : View S) × (get_elem? table.views seat ≡ some view) × (is_live view ≡ true)
    pub home : holder ≡ None → (state : S) × (get_elem? table.homes 0 ≡ some (some (Some state))) × is_state history state
    pub counted : count_by is_live table.views + joined ≡ made
    pub differ : (seat other : ℕ) (view next : View S) → get_elem? table.views seat ≡ some view → get_elem? table.views other ≡ some next
        → is_live view ≡ true → is_live next ≡ true → view.number ≡ next.number → seat ≡ other
    pub others : (number : ℕ) → SomeLive table.views (λ view. view.number ≡ number) ⊎ clear (entries_of number history)
    pub unmade : (number : ℕ) → made ≤ number → entries_of number history ≡ []

  -- the opening view of a lock
  abbrev pub first_view : S → View S
  first_view origin = record { stage = Free; number = 0; seen = []; mine = []; made = 1; joined = 0; origin = Some origin }

  -- the views of a split, and of a join
  abbrev pub split_left : View S → View S
  split_left view = record view { made = view.made + 1 }

  abbrev pub split_right : View S → View S
  split_right view = record { stage = Free; number = view.made; seen = view.seen; mine = []; made = 0; joined = 0; origin = view.origin }

  abbrev pub join_both : View S → View S → View S
  join_both view other = record view {
    stage = Joined view.seen other.seen other.number other.mine;
    seen = longer view.seen other.seen;
    joined = view.joined + 1;
  }

  abbrev pub spent_view : View S
  spent_view = record { stage = Spent; number = 0; seen = []; mine = []; made = 0; joined = 0; origin = None }
