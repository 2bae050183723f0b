-- The rule at the start, and what it says at the end.
use Rattle.std.proofs.Common.{◌≡◌, ℕ, zero, suc, ◌+◌, true, false, List, [], ◌∷◌, refl, sym, ap, ◌∙◌, subst, inl, inr, arith, true≢false, eq-eqb}
use Rattle.std.specs.Prelude.{Option, Some, None, count_by}
use mathlib.Core.Option.{some, some-injective, some-ne-none}
use lib.ListN.{get_elem?}
use Rattle.atomic_table.specs.Table.{State, opening, Final, Seen}
use Rattle.cache_core.specs.declared.entry.Entry.{Entry}
use Rattle.cache_core.specs.History.{IsLegal}
use Rattle.turn_lock.specs.Entries.{entries_of, IsClear}
use Rattle.turn_lock.specs.Rule.{is_live, is_live_stage, is_holder, FitsStage, Knows, Kept, first_view}
use Rattle.turn_lock.specs.Told.{IsState}
use Rattle.turn_lock.specs.declared.view.Stage.TheVariants.{Free}
use Rattle.turn_lock.specs.declared.view.View.{View}
use Rattle.turn_lock.proofs.Histories.{begins-refl}
use Rattle.turn_lock.proofs.Lists.{only_one}

module _ {S N : Type 0} (budget : S → ℕ) (log : S → List Entry) (name : S → N) (origin : S) where
  abbrev Rule : State (Option S) (View S) → Type 0
  Rule = Kept (IsLegal (budget origin)) IsClear (IsState budget log name origin) origin

  clear_none : IsClear []
  clear_none = record { turns = λ class key. refl; holds = λ class key serial. refl }

  -- the one view at the start
  alone : (seat : ℕ) (view : View S) → get_elem? (first_view origin ∷ []) seat ≡ some view → (seat ≡ 0) × (first_view origin ≡ view)
  alone zero view e = (refl, some-injective (first_view origin) view e)
  alone (suc seat) view e = absurd (some-ne-none view (sym e))

  pub opens : log origin ≡ [] → Rule (opening (0 ∷ []) (Some origin ∷ []) (first_view origin))
  opens empty = record {
    history = [];
    holder = None;
    made = 1;
    joined = 0;
    word = refl;
    few = omega arith;
    legal_is = refl;
    each = λ seat view e lives. let is = alone seat view e in subst (λ b. Knows origin [] None 1 0 seat b) is.1 (record {
      of = refl;
      begins = begins-refl [];
      own = refl;
      all = refl;
      stage = refl;
      below = omega arith;
      counts = λ _. (refl, refl);
    });
    longest = (0, first_view origin, refl, refl, refl);
    held_by = λ seat e. absurd (no_seat seat e);
    home = λ _. (origin, refl, record { same_log = empty; same_budget = refl; same_name = refl });
    counted = refl;
    differ = λ seat other view next e e' lives lives' same. (alone seat view e).0 ∙ sym (alone other next e').0;
    others = λ number. inr clear_none;
    unmade = λ number le. refl;
  }
    where
      no_seat : (seat : ℕ) → None ≡ Some seat → ⊥
      no_seat seat e = cc

  -- what is in the slot at the end
  pub record Closes (seen : List Entry) (slots : List (Option S)) : Type 0 where
    pub state : S
    pub at : get_elem? slots 0 ≡ some (Some state)
    pub is : IsState budget log name origin seen state
    pub legal : IsLegal (budget origin) seen
    pub clear : (number : ℕ) → IsClear (entries_of number seen)

  pub closes : (id : ℕ) (v : View S) (words : List ℕ) (slots : List (Option S)) → v.stage ≡ Free → v.number ≡ 0 → v.made ≡ v.joined + 1 → IsClear v.mine
      → Final (Seen Rule id v) words slots → Closes v.seen slots
  closes id v words slots free opening_is last clear_mine final =
      let s = final.0 in
      let h = final.1.0 in
      let at = final.1.1 in
      let live : is_live v ≡ true = ap is_live_stage free in
      let k = h.each id v at live in
      let counts = k.counts opening_is in
      let one : count_by is_live s.views ≡ 1 = omega (arith, h.counted, counts.0, counts.1, last) in
      let not_held : is_holder h.holder id ≡ false = subst (FitsStage h.history (is_holder h.holder id) v.seen) free k.stage in
      let none : h.holder ≡ None = by h.holder (λ seat e. let old = h.held_by seat e in only_one is_live s.views id seat v old.0 one at live old.1 old.2) not_held in
      let home = h.home none in
      let long = h.longest in
      let only : id ≡ long.0 = only_one is_live s.views id long.0 v long.1 one at live long.2 long.3 in
      let history : v.seen ≡ h.history = ap (λ (x : View S). x.seen) (some-injective v long.1 (sym at ∙ ap (get_elem? s.views) only ∙ long.2)) ∙ long.4 in
      record {
        state = home.0;
        at = final.4 0 (Some home.0) home.1;
        is = subst (λ l. IsState budget log name origin l home.0) (sym history) home.2;
        legal = subst (IsLegal (budget origin)) (sym history) h.legal_is;
        clear = λ number. subst (λ l. IsClear (entries_of number l)) (sym history) (elim (h.others number) [
          | inl other ↦
              let same : id ≡ other.0 = only_one is_live s.views id other.0 v other.1 one at live other.2 other.3 in
              let number_is : v.number ≡ number = ap (λ (x : View S). x.number) (some-injective v other.1 (sym at ∙ ap (get_elem? s.views) same ∙ other.2)) ∙ other.4 in
              subst IsClear (sym k.all ∙ ap (λ n. entries_of n h.history) number_is) clear_mine
          | inr clear_before ↦ clear_before
        ]);
      }
    where
      by : (holder : Option ℕ) → ((seat : ℕ) → holder ≡ Some seat → id ≡ seat) → is_holder holder id ≡ false → holder ≡ None
      by None held not_held = refl
      by (Some seat) held not_held = absurd (true≢false (sym (eq-eqb seat id (sym (held seat refl))) ∙ not_held))
