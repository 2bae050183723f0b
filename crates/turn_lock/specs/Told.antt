-- What each step on the lock's word tells its pass.
use Rattle.std.specs.Prelude.{ℕ, ◌≡◌, ◌≢◌, List, [], ◌∷◌, Option, Some, ⊤}
use Rattle.atomic_table.specs.Table.{Me, Step}
use Rattle.cache_core.specs.declared.entry.Entry.{Entry}
use Rattle.cache_core.specs.History.{IsLegal}
use Rattle.turn_lock.specs.Entries.{Begins, entries_of}
use Rattle.turn_lock.specs.declared.view.Stage.{Stage}
use Rattle.turn_lock.specs.declared.view.Stage.TheVariants.{Spent, Free, Holds, Joined}
use Rattle.turn_lock.specs.declared.view.View.{View}

-- a stage after a look
abbrev pub rested : Stage → Stage
rested Spent = Spent
rested Free = Free
rested (Holds taken) = Holds taken
rested (Joined before other number mine) = Free

-- what a view that has just taken in another noted
abbrev pub Heard : List Entry → Stage → Type 0
Heard seen Spent = ⊤
Heard seen Free = ⊤
Heard seen (Holds taken) = ⊤
Heard seen (Joined before other number mine) = Begins before seen × Begins other seen × (entries_of number seen ≡ mine)

module _ {S : Type 0} where
  abbrev pub in_stage : Stage → View S → View S
  in_stage stage view = record view { stage = stage }

  -- a look: what the view has seen has its own entries, and what it noted at a join holds
  abbrev pub looked : Step (Option S) → Me (Option S) (View S) → ℕ → Me (Option S) (View S) → Type 0
  looked step before found after =
      (after ≡ (in_stage (rested before.0.stage) before.0, before.1))
      × (entries_of before.0.number before.0.seen ≡ before.0.mine) × Heard before.0.seen before.0.stage

module _ {S N : Type 0} (budget : S → ℕ) (log : S → List Entry) (name : S → N) where
  -- a state of a lock that was made with the origin, with this history
  pub record IsState (origin : S) (history : List Entry) (state : S) : Type 0 where
    pub same_log : log state ≡ history
    pub same_budget : budget state ≡ budget origin
    pub same_name : name state ≡ name origin

  -- the state that a view took
  pub record Taken (view : View S) (state : S) : Type 0 where
    pub of : (origin : S) → view.origin ≡ Some origin → (budget state ≡ budget origin) × (name state ≡ name origin) × IsLegal (budget origin) (log state)
    pub begins : Begins view.seen (log state)
    pub own : entries_of view.number (log state) ≡ view.mine

  -- a compare and exchange: where it found what it expected, the seat has the state, and else nothing changed
  abbrev pub took : Step (Option S) → Me (Option S) (View S) → ℕ → Me (Option S) (View S) → Type 0
  took step before found after =
      (found ≡ step.first → (state : S) × (after ≡ (in_stage (Holds (log state)) before.0, (0, Some state) ∷ [])) × Taken before.0 state)
      × (found ≢ step.first → after ≡ before)

  -- a view that put a state back
  abbrev pub put_view : S → View S → View S
  put_view state view = record view { stage = Free; seen = log state; mine = entries_of view.number (log state) }

  -- a store
  abbrev pub released : Step (Option S) → Me (Option S) (View S) → ℕ → Me (Option S) (View S) → Type 0
  released step before found after = (state : S) → before.1 ≡ (0, Some state) ∷ [] → after ≡ (put_view state before.0, [])
