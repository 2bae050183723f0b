-- The rule after a step by which one live view changes, and keeps its number.
use Rattle.std.proofs.Common.{◌≡◌, ◌≢◌, ℕ, ◌+◌, ◌*◌, ◌<◌, ◌⊎◌, true, false, List, [], ◌∷◌, length, set, refl, sym, ap, ◌∙◌, subst, subst₂, inl, inr, arith, ne_eqb, eqb-true}
use Rattle.std.specs.Prelude.{Option, Some, None}
use mathlib.Core.Logic.{dite}
use mathlib.Core.Option.{Option as Maybe, some, some-injective}
use native.Mathlib.Decide.{ℕ_discrete}
use lib.ListN.{get_elem?}
use Rattle.atomic_table.specs.Table.{State}
use Rattle.atomic_table.proofs.Lists.{at_set, set_else}
use Rattle.cache_core.specs.declared.entry.Entry.{Entry}
use Rattle.cache_core.specs.History.{history_limit}
use Rattle.turn_lock.specs.Entries.{entries_of}
use Rattle.turn_lock.specs.Rule.{is_live, held_bit, is_holder, FitsStage, Knows, SomeLive, Kept}
use Rattle.turn_lock.specs.declared.view.View.{View}
use Rattle.turn_lock.proofs.Lists.{bit, there, count-set}

-- one seat holds at most
pub one_holder : (holder : Option ℕ) (id seat : ℕ) → is_holder holder id ≡ true → seat ≢ id → is_holder holder seat ≡ false
one_holder None id seat e differs = absurd (cc)
one_holder (Some h) id seat e differs = ne_eqb h seat (λ s. differs (sym s ∙ eqb-true h id e))

pub holder_is : (holder : Option ℕ) (id : ℕ) → is_holder holder id ≡ true → holder ≡ Some id
holder_is None id e = absurd (cc)
holder_is (Some h) id e = ap Some (eqb-true h id e)

module _ {S : Type 0} where
  -- what a view knows does not change with another seat that holds
  pub knows_held : (origin : S) (history : List Entry) (holder holder' : Option ℕ) (made joined seat : ℕ) (view : View S) → is_holder holder seat ≡ is_holder holder' seat
      → Knows origin history holder made joined seat view → Knows origin history holder' made joined seat view
  knows_held origin history holder holder' made joined seat view e k = record {
    of = k.of;
    begins = k.begins;
    own = k.own;
    all = k.all;
    stage = subst (λ b. FitsStage history b view.seen view.stage) e k.stage;
    below = k.below;
    counts = k.counts;
  }

  -- where a live view passes a test, one does after the change
  pub moved : (views : List (View S)) (id : ℕ) (v w : View S) → get_elem? views id ≡ some v → (P : View S → Type 0) → (P v → P w) → is_live w ≡ true → SomeLive views P → SomeLive (set views id w) P
  moved views id v w at P carries live some_view =
      dite (ℕ_discrete some_view.0 id)
      (λ e.
      let here : get_elem? views id ≡ some some_view.1 = ap (get_elem? views) (sym e) ∙ some_view.2 in
      let same : some_view.1 ≡ v = some-injective some_view.1 v (sym here ∙ at) in
      (id, w, there views id v w at, live, carries (subst P same some_view.4)))
      (λ ne. (some_view.0, some_view.1, set_else views id some_view.0 w ne ∙ some_view.2, some_view.3, some_view.4))

  -- a live view after the change was one before, of its number
  pub record Before (views : List (View S)) (seat : ℕ) (view : View S) : Type 0 where
    pub old : View S
    pub at : get_elem? views seat ≡ some old
    pub live : is_live old ≡ true
    pub number : old.number ≡ view.number

  pub before : (views : List (View S)) (id : ℕ) (v w : View S) → get_elem? views id ≡ some v → is_live v ≡ true → w.number ≡ v.number
      → (seat : ℕ) (view : View S) → get_elem? (set views id w) seat ≡ some view → is_live view ≡ true → Before views seat view
  before views id v w at live same seat view e lives = elim (at_set views id seat w view e) [
    | inl t ↦ record { old = v; at = ap (get_elem? views) t.0 ∙ at; live = live; number = sym same ∙ ap (λ (x : View S). x.number) t.1 }
    | inr t ↦ record { old = view; at = t.1; live = lives; number = refl }
  ]

module _ {S : Type 0} (legal clear : List Entry → Type 0) (is_state : List Entry → S → Type 0) (origin : S) where
  -- one view changes, and perhaps the history and who holds
  pub record Changes (s : State (Option S) (View S)) (h : Kept legal clear is_state origin s) (id : ℕ) (v w : View S) (words : List ℕ) (homes : List (Maybe (Option S))) (history : List Entry) (holder : Option ℕ) : Type 0 where
    pub at : get_elem? s.views id ≡ some v
    pub live_before : is_live v ≡ true
    pub live_after : is_live w ≡ true
    pub number : w.number ≡ v.number
    pub word : words ≡ (2 * length history + held_bit holder) ∷ []
    pub few : length history < history_limit
    pub legal_is : legal history
    pub own : Knows origin history holder h.made h.joined id w
    pub rest : (seat : ℕ) (view : View S) → seat ≢ id → view.number ≢ v.number → Knows origin h.history h.holder h.made h.joined seat view → Knows origin history holder h.made h.joined seat view
    pub longest : SomeLive (set s.views id w) (λ view. view.seen ≡ history)
    pub held : (seat : ℕ) → holder ≡ Some seat → (seat ≡ id) ⊎ (h.holder ≡ Some seat)
    pub home : holder ≡ None → (state : S) × (get_elem? homes 0 ≡ some (some (Some state))) × is_state history state
    pub same : (number : ℕ) → number ≢ v.number → entries_of number history ≡ entries_of number h.history

  pub rebuilt : (s : State (Option S) (View S)) (h : Kept legal clear is_state origin s) (id : ℕ) (v w : View S) (words : List ℕ) (homes : List (Maybe (Option S))) (history : List Entry) (holder : Option ℕ)
      → Changes s h id v w words homes history holder
      → Kept legal clear is_state origin (record { words = words; homes = homes; views = set s.views id w })
  rebuilt s h id v w words homes history holder c =
      let at' = there s.views id v w c.at in
      let live : bit (is_live v) ≡ 1 = ap bit c.live_before in
      let live' : bit (is_live w) ≡ 1 = ap bit c.live_after in
      record {
        history = history;
        holder = holder;
        made = h.made;
        joined = h.joined;
        word = c.word;
        few = c.few;
        legal_is = c.legal_is;
        each = λ seat view e lives. elim (at_set s.views id seat w view e) [
          | inl t ↦ subst₂ (λ a b. Knows origin history holder h.made h.joined a b) (sym t.0) t.1 c.own
          | inr t ↦ c.rest seat view t.0 (λ same. t.0 (h.differ seat id view v t.1 c.at lives c.live_before same)) (h.each seat view t.1 lives)
        ];
        longest = c.longest;
        held_by = λ seat e. dite (ℕ_discrete seat id)
            (λ same. (w, ap (get_elem? (set s.views id w)) same ∙ at', c.live_after))
            (λ differs. elim (c.held seat e) [
              | inl same ↦ absurd (differs same)
              | inr old ↦ let there_before = h.held_by seat old in (there_before.0, set_else s.views id seat w differs ∙ there_before.1, there_before.2)
            ]);
        home = c.home;
        counted = omega (arith, h.counted, count-set is_live s.views id v w c.at, live, live');
        differ = λ seat other view next e e' lives lives' same.
            let a = before s.views id v w c.at c.live_before c.number seat view e lives in
            let b = before s.views id v w c.at c.live_before c.number other next e' lives' in
            h.differ seat other a.old b.old a.at b.at a.live b.live (a.number ∙ same ∙ sym b.number);
        others = λ number. dite (ℕ_discrete number v.number)
            (λ e. inl (id, w, at', c.live_after, c.number ∙ sym e))
            (λ ne. elim (h.others number) [
              | inl one ↦ inl (moved s.views id v w c.at (λ (view : View S). view.number ≡ number) (λ e. c.number ∙ e) c.live_after one)
              | inr clear_before ↦ inr (subst clear (sym (c.same number ne)) clear_before)
            ]);
        unmade = λ number le. c.same number (λ e. absurd (omega (arith, le, e, (h.each id v c.at c.live_before).below))) ∙ h.unmade number le;
      }
