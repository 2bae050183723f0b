-- A pass and its lock, as their fields are.
use Rattle.std.proofs.Common.{◌≡◌, ℕ, true, ◌+◌, ◌*◌, ◌/◌, ◌%◌, ◌<◌, List, [], ◌∷◌, ◌++◌, length, refl, sym, ap, ◌∙◌, subst, arith, eqb}
use Rattle.std.specs.Prelude.{Option, Some, None}
use mathlib.Core.Option.{none}
use prog.Atomic.{either}
use Rattle.atomic_table.specs.Seated.{TableId}
use Rattle.atomic_table.specs.Table.{Me, Allows, step, rest}
use Rattle.atomic_table.specs.declared.shared.Seat.{Seat}
use Rattle.cache_core.specs.declared.entry.Entry.{Entry}
use Rattle.turn_lock.specs.Entries.{Begins, entries_of, AreOf}
use Rattle.cache_core.specs.History.{IsLegal, history_limit}
use Rattle.turn_lock.specs.Lock.{Lock, Pass, IsOf}
use Rattle.turn_lock.specs.Seen.{taken_in, HasHand, pass_of}
use Rattle.turn_lock.specs.Told.{took, looked, released}
use Rattle.turn_lock.specs.Rule.{is_live}
use Rattle.turn_lock.specs.declared.view.Stage.{Stage}
use Rattle.turn_lock.specs.declared.view.Stage.TheVariants.{Spent, Free, Holds, Joined}
use Rattle.turn_lock.specs.declared.view.View.{View}
use Rattle.turn_lock.proofs.Turning.{Rule, takes_turn, looks, releases}

-- a pass that does not hold is free, with nothing in hand
pub free_hand : {S : Type 0} (stage : Stage) (number : ℕ) (seen mine : List Entry) (hand : List (ℕ × Option S)) → taken_in stage ≡ None → HasHand stage number seen mine hand → (stage ≡ Free) × (hand ≡ [])
free_hand Spent number seen mine hand e has = absurd has
free_hand Free number seen mine hand e has = (refl, has)
free_hand (Holds taken) number seen mine hand e has = absurd (cc (e))
free_hand (Joined before other number' mine') number seen mine hand e has = absurd has

-- a pass that holds has the empty slot in hand
pub record InHand {S : Type 0} (stage : Stage) (taken : List Entry) (number : ℕ) (seen mine : List Entry) (hand : List (ℕ × Option S)) : Type 0 where
  pub stage_is : stage ≡ Holds taken
  pub hand_is : hand ≡ (0, None) ∷ []
  pub begins : Begins seen taken
  pub own : entries_of number taken ≡ mine

pub held_hand : {S : Type 0} (stage : Stage) (taken : List Entry) (number : ℕ) (seen mine : List Entry) (hand : List (ℕ × Option S)) → taken_in stage ≡ Some taken → HasHand stage number seen mine hand
    → InHand stage taken number seen mine hand
held_hand Spent taken number seen mine hand e has = absurd has
held_hand Free taken number seen mine hand e has = absurd (cc (e))
held_hand (Holds t) taken number seen mine hand e has =
    let same : t ≡ taken = cc in
    record { stage_is = ap Holds same; hand_is = has.0; begins = subst (Begins seen) same has.1; own = ap (entries_of number) (sym same) ∙ has.2 }
held_hand (Joined before other number' mine') taken number seen mine hand e has = absurd has

-- the table of a pass is the one of its lock, and so is the state that the lock was made with
pub own_table : {S : Type 0} (seat : Seat (Option S) (View S)) (id : TableId) (origin : S) (pass : Pass S) (self : Lock S)
    → pass_of seat ≡ pass → record { id = id; origin = origin } ≡ self → IsOf self pass → seat.table_id ≡ id
own_table seat id origin pass self view_pass view_self own = ap (λ (p : Pass _). p.id) view_pass ∙ own.same ∙ sym (ap (λ (l : Lock _). l.id) view_self)

pub own_origin : {S : Type 0} (seat : Seat (Option S) (View S)) (id : TableId) (origin : S) (pass : Pass S) (self : Lock S)
    → pass_of seat ≡ pass → record { id = id; origin = origin } ≡ self → IsOf self pass → seat.me.0.origin ≡ Some origin
own_origin seat id origin pass self view_pass view_self own =
    ap (λ (p : Pass _). p.origin) view_pass ∙ own.from ∙ sym (ap (λ (l : Lock _). Some l.origin) view_self)

even_half : (n : ℕ) → n % 2 ≡ 0 → n ≡ 2 * (n / 2)
even_half n e = omega arith

module _ {S N : Type 0} (budget : S → ℕ) (log : S → List Entry) (name : S → N) (origin : S) where
  -- a step of a seat with nothing in hand
  pub may_take : (slots id even : ℕ) (me : Me (Option S) (View S)) → slots ≡ 1 → even % 2 ≡ 0 → me.0.stage ≡ Free → me.1 ≡ []
      → Allows (Rule budget log name origin) slots id me 0 (λ n. either (eqb n even) (even + 1) n) (took budget log name (step slots 0 even (even + 1) none) me)
  may_take slots id even me one parity free empty =
      subst (λ n. Allows (Rule budget log name origin) n id me 0 (λ n. either (eqb n even) (even + 1) n) (took budget log name (step n 0 even (even + 1) none) me)) (sym one)
      (subst (λ e. Allows (Rule budget log name origin) 1 id me 0 (λ n. either (eqb n e) (e + 1) n) (took budget log name (step 1 0 e (e + 1) none) me)) (sym (even_half even parity))
      (subst (λ h. Allows (Rule budget log name origin) 1 id (me.0, h) 0 (λ n. either (eqb n (2 * (even / 2))) (2 * (even / 2) + 1) n) (took budget log name (step 1 0 (2 * (even / 2)) (2 * (even / 2) + 1) none) (me.0, h))) (sym empty)
      (takes_turn budget log name origin id (even / 2) me.0 free)))

  pub may_look : (slots id : ℕ) (me : Me (Option S) (View S)) → slots ≡ 1 → is_live me.0 ≡ true → me.1 ≡ []
      → Allows (Rule budget log name origin) slots id me 0 (λ n. n) (looked (step slots 0 0 0 none) me)
  may_look slots id me one live empty =
      subst (λ n. Allows (Rule budget log name origin) n id me 0 (λ n. n) (looked (step n 0 0 0 none) me)) (sym one)
      (subst (λ h. Allows (Rule budget log name origin) 1 id (me.0, h) 0 (λ n. n) (looked (step 1 0 0 0 none) (me.0, h))) (sym empty)
      (looks budget log name origin id me.0 live))

  -- a step of a seat that has the state in hand again
  pub may_put : (slots id word : ℕ) (me before : Me (Option S) (View S)) (state : S) (taken added : List Entry) → slots ≡ 1 → word ≡ length (log state)
      → me ≡ (before.0, (0, Some state) ∷ rest before.1) → before.1 ≡ (0, None) ∷ [] → before.0.stage ≡ Holds taken
      → log state ≡ taken ++ added → AreOf before.0.number added → budget state ≡ budget origin → name state ≡ name origin → IsLegal (budget origin) (log state) → length (log state) < history_limit
      → Allows (Rule budget log name origin) slots id me 0 (λ _. 2 * word) (λ _. released budget log name (step slots 0 (2 * word) 0 none) me (2 * word))
  may_put slots id word me before state taken added one count is empty holds more of_own same_budget same_name legal few =
      let hand : me ≡ (before.0, (0, Some state) ∷ []) = is ∙ ap (λ l. (before.0, (0, Some state) ∷ rest l)) empty in
      subst (λ n. Allows (Rule budget log name origin) n id me 0 (λ _. 2 * word) (λ _. released budget log name (step n 0 (2 * word) 0 none) me (2 * word))) (sym one)
      (subst (λ n. Allows (Rule budget log name origin) 1 id me 0 (λ _. 2 * n) (λ _. released budget log name (step 1 0 (2 * n) 0 none) me (2 * n))) (sym count)
      (subst (λ m. Allows (Rule budget log name origin) 1 id m 0 (λ _. 2 * length (log state)) (λ _. released budget log name (step 1 0 (2 * length (log state)) 0 none) m (2 * length (log state)))) (sym hand)
      (releases budget log name origin id before.0 state taken added holds more of_own same_budget same_name legal few)))
