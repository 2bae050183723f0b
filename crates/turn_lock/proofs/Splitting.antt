-- The step by which the opening pass makes a new one.
use Rattle.std.proofs.Common.{◌≡◌, ℕ, ◌+◌, ◌≤◌, ◌⊎◌, true, false, List, [], ◌∷◌, ◌++◌, length, set, refl, sym, ap, ◌∙◌, subst, subst₂, inl, inr, arith, ne_eqb, length-set}
use Rattle.std.specs.Prelude.{Option, Some, None}
use mathlib.Core.Option.{some}
use lib.ListN.{get_elem?}
use mathlib.Core.Logic.{dite}
use native.Mathlib.Decide.{ℕ_discrete}
use Rattle.atomic_table.specs.Table.{State, Splits}
use Rattle.atomic_table.proofs.Lists.{at_set, set_else, at_longer}
use Rattle.cache_core.specs.declared.entry.Entry.{Entry}
use Rattle.turn_lock.specs.Rule.{is_live, is_live_stage, is_holder, Knows, SomeLive, Kept, split_left, split_right}
use Rattle.turn_lock.specs.declared.view.Stage.TheVariants.{Free}
use Rattle.turn_lock.specs.declared.view.View.{View}
use Rattle.turn_lock.proofs.Histories.{entries-none}
use Rattle.turn_lock.proofs.Lists.{bit, there, within, at_end, count-set, count-last}
use Rattle.turn_lock.proofs.Rebuilt.{moved, Before, before}

module _ {S : Type 0} (legal clear : List Entry → Type 0) (is_state : List Entry → S → Type 0) (origin : S) where
  -- the seat that holds is not the one to come
  not_new : (s : State (Option S) (View S)) (h : Kept legal clear is_state origin s) (n : ℕ) → length s.views ≤ n → is_holder h.holder n ≡ false
  not_new s h n le = by h.holder h.held_by
    where
      by : (holder : Option ℕ) → ((seat : ℕ) → holder ≡ Some seat → (view : View S) × (get_elem? s.views seat ≡ some view) × (is_live view ≡ true)) → is_holder holder n ≡ false
      by None held = refl
      by (Some seat) held = let one = held seat refl in ne_eqb seat n (λ e. absurd (omega (arith, e, le, within s.views seat one.0 one.1)))

  -- where a live view passes a test, one does in a longer list
  longer_some : (views : List (View S)) (w : View S) (P : View S → Type 0) → SomeLive views P → SomeLive (views ++ w ∷ []) P
  longer_some views w P one = (one.0, one.1, at_longer views (w ∷ []) one.0 one.1 one.2, one.3, one.4)

  -- a view after the split: the new one, or one from before
  abbrev From : List (View S) → ℕ → View S → ℕ → Type 0
  From views seat view made = Before views seat view ⊎ ((seat ≡ length views) × (view.number ≡ made))

  pub splits : (id : ℕ) (v : View S) → v.stage ≡ Free → v.number ≡ 0 → Splits (Kept legal clear is_state origin) id v (split_left v) (split_right v)
  splits id v free opening s h at =
      let live : is_live v ≡ true = ap is_live_stage free in
      let k = h.each id v at live in
      let counts = k.counts opening in
      let left = split_left v in
      let right = split_right v in
      let views = set s.views id left in
      let len : length views ≡ length s.views = length-set s.views id left in
      let bit_live : bit (is_live v) ≡ 1 = ap bit live in
      let from : (seat : ℕ) (view : View S) → get_elem? (views ++ right ∷ []) seat ≡ some view → is_live view ≡ true → From s.views seat view h.made =
      λ seat view e lives. elim (at_end views right view seat e) [
        | inl old ↦ inl (before s.views id v left at live refl seat view old lives)
        | inr new ↦ inr (new.0 ∙ len, ap (λ (x : View S). x.number) (sym new.1) ∙ counts.0)
      ] in
      record {
        history = h.history;
        holder = h.holder;
        made = h.made + 1;
        joined = h.joined;
        word = h.word;
        few = h.few;
        legal_is = h.legal_is;
        each = λ seat view e lives. elim (at_end views right view seat e) [
          | inl old ↦ elim (at_set s.views id seat left view old) [
            | inl t ↦ subst₂ (λ a b. Knows origin h.history h.holder (h.made + 1) h.joined a b) (sym t.0) t.1 (record {
              of = k.of;
              begins = k.begins;
              own = k.own;
              all = k.all;
              stage = k.stage;
              below = omega (arith, k.below);
              counts = λ _. (ap (λ n. n + 1) counts.0, counts.1);
            })
            | inr t ↦ let u = h.each seat view t.1 lives in record {
              of = u.of;
              begins = u.begins;
              own = u.own;
              all = u.all;
              stage = u.stage;
              below = omega (arith, u.below);
              counts = λ zero_is. absurd (t.0 (h.differ seat id view v t.1 at lives live (zero_is ∙ sym opening)));
            }
          ]
          | inr new ↦ subst (λ b. Knows origin h.history h.holder (h.made + 1) h.joined seat b) new.1 (record {
            of = k.of;
            begins = k.begins;
            own = entries-none v.made v.seen h.history k.begins (h.unmade v.made (omega (arith, counts.0)));
            all = h.unmade v.made (omega (arith, counts.0));
            stage = not_new s h seat (omega (arith, new.0, len));
            below = omega (arith, counts.0);
            counts = λ zero_is. absurd (omega (arith, zero_is, counts.0, k.below));
          })
        ];
        longest = longer_some views right (λ view. view.seen ≡ h.history) (moved s.views id v left at (λ (view : View S). view.seen ≡ h.history) (λ e. e) live h.longest);
        held_by = λ seat e.
            let old = h.held_by seat e in
            dite (ℕ_discrete seat id)
            (λ same. (left, at_longer views (right ∷ []) seat left (ap (get_elem? views) same ∙ there s.views id v left at), live))
            (λ differs. (old.0, at_longer views (right ∷ []) seat old.0 (set_else s.views id seat left differs ∙ old.1), old.2));
        home = h.home;
        counted = omega (arith, h.counted, count-last is_live views right, count-set is_live s.views id v left at, bit_live);
        differ = λ seat other view next e e' lives lives' same.
            elim (from seat view e lives) [
              | inl a ↦ elim (from other next e' lives') [
                | inl b ↦ h.differ seat other a.old b.old a.at b.at a.live b.live (a.number ∙ same ∙ sym b.number)
                | inr b ↦ absurd (omega (arith, a.number, same, b.1, (h.each seat a.old a.at a.live).below))
              ]
              | inr a ↦ elim (from other next e' lives') [
                | inl b ↦ absurd (omega (arith, a.1, same, b.number, (h.each other b.old b.at b.live).below))
                | inr b ↦ a.0 ∙ sym b.0
              ]
            ];
        others = λ number. elim (h.others number) [
          | inl one ↦ inl (longer_some views right (λ view. view.number ≡ number) (moved s.views id v left at (λ (view : View S). view.number ≡ number) (λ e. e) live one))
          | inr clear_before ↦ inr clear_before
        ];
        unmade = λ number le. h.unmade number (omega (arith, le));
      }
