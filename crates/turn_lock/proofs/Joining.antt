-- The step by which the opening pass takes in another.
use Rattle.std.proofs.Common.{◌≡◌, ◌≢◌, ℕ, ◌+◌, true, false, List, set, refl, sym, ap, ◌∙◌, subst, subst₂, inl, inr, arith, true≢false, eq-eqb}
use mathlib.Core.Option.{some, some-injective}
use lib.ListN.{get_elem?}
use mathlib.Core.Logic.{dite}
use native.Mathlib.Decide.{ℕ_discrete}
use Rattle.atomic_table.specs.Table.{Joins}
use Rattle.atomic_table.proofs.Lists.{at_set, set_else}
use Rattle.cache_core.specs.declared.entry.Entry.{Entry}
use Rattle.turn_lock.specs.Entries.{entries_of, longer}
use Rattle.turn_lock.specs.Rule.{is_live, is_live_stage, is_holder, FitsStage, Knows, Kept, join_both, spent_view}
use Rattle.turn_lock.specs.declared.view.Stage.TheVariants.{Free}
use Rattle.turn_lock.specs.declared.view.View.{View}
use Rattle.turn_lock.proofs.Histories.{longer_of, longer_whole, entries-between}
use Rattle.turn_lock.proofs.Lists.{bit, there, count-set}
use Rattle.turn_lock.proofs.Rebuilt.{Before, before}

module _ {S : Type 0} (legal clear : List Entry → Type 0) (is_state : List Entry → S → Type 0) (origin : S) where
  -- a view of the list after the join is at another place than the spent one, and was before
  pub record Stays (views : List (View S)) (id other : ℕ) (both : View S) (seat : ℕ) (view : View S) : Type 0 where
    pub apart : seat ≢ other
    pub at : get_elem? (set views id both) seat ≡ some view
    pub from : Before views seat view

  pub joins : (id other : ℕ) (v w : View S) → v.stage ≡ Free → v.number ≡ 0 → w.stage ≡ Free → clear w.mine
      → Joins (Kept legal clear is_state origin) id v other w (join_both v w) spent_view
  joins id other v w free opening other_free other_clear s h at apart at_both =
      let both = join_both v w in
      let live : is_live v ≡ true = ap is_live_stage free in
      let live_w : is_live w ≡ true = ap is_live_stage other_free in
      let at_w : get_elem? s.views other ≡ some w = sym (set_else s.views id other both apart) ∙ at_both in
      let k = h.each id v at live in
      let o = h.each other w at_w live_w in
      let counts = k.counts opening in
      let longest = longer_of v.seen w.seen h.history k.begins o.begins in
      let joined = set s.views id both in
      let views = set joined other spent_view in
      let no_v : is_holder h.holder id ≡ false = subst (FitsStage h.history (is_holder h.holder id) v.seen) free k.stage in
      let no_w : is_holder h.holder other ≡ false = subst (FitsStage h.history (is_holder h.holder other) w.seen) other_free o.stage in
      let bit_v : bit (is_live v) ≡ 1 = ap bit live in
      let bit_w : bit (is_live w) ≡ 1 = ap bit live_w in
      let here : get_elem? views id ≡ some both = set_else joined other id spent_view (λ e. apart (sym e)) ∙ there s.views id v both at in
      let stays : (seat : ℕ) (view : View S) → get_elem? views seat ≡ some view → is_live view ≡ true → Stays s.views id other both seat view =
      λ seat view e lives. elim (at_set joined other seat spent_view view e) [
        | inl t ↦ absurd (true≢false (sym lives ∙ ap is_live (sym t.1)))
        | inr t ↦ record { apart = t.0; at = t.1; from = before s.views id v both at live refl seat view t.1 lives }
      ] in
      let kept : (seat : ℕ) (view : View S) → seat ≢ other → seat ≢ id → get_elem? s.views seat ≡ some view → get_elem? views seat ≡ some view =
      λ seat view no_other no_id e. set_else joined other seat spent_view no_other ∙ set_else s.views id seat both no_id ∙ e in
      record {
        history = h.history;
        holder = h.holder;
        made = h.made;
        joined = h.joined + 1;
        word = h.word;
        few = h.few;
        legal_is = h.legal_is;
        each = λ seat view e lives.
            let stay = stays seat view e lives in
            elim (at_set s.views id seat both view stay.at) [
              | inl t ↦ subst₂ (λ a b. Knows origin h.history h.holder h.made (h.joined + 1) a b) (sym t.0) t.1 (record {
                of = k.of;
                begins = longest.begins;
                own = entries-between v.number v.seen (longer v.seen w.seen) h.history v.mine longest.from_one longest.begins k.own k.all;
                all = k.all;
                stage = (no_v, longest.from_one, longest.from_other, entries-between w.number w.seen (longer v.seen w.seen) h.history w.mine longest.from_other longest.begins o.own o.all);
                below = k.below;
                counts = λ _. (counts.0, ap (λ n. n + 1) counts.1);
              })
              | inr t ↦ let u = h.each seat view t.1 lives in record {
                of = u.of;
                begins = u.begins;
                own = u.own;
                all = u.all;
                stage = u.stage;
                below = u.below;
                counts = λ zero_is. absurd (t.0 (h.differ seat id view v t.1 at lives live (zero_is ∙ sym opening)));
              }
            ];
        longest =
            let one = h.longest in
            dite (ℕ_discrete one.0 id)
            (λ same. (
              id,
              both,
              here,
              live_both,
              longer_whole v.seen w.seen h.history v.seen longest longest.from_one
                  (ap (λ (x : View S). x.seen) (some-injective v one.1 (sym at ∙ ap (get_elem? s.views) (sym same) ∙ one.2)) ∙ one.4),
            ))
            (λ no_id. dite (ℕ_discrete one.0 other)
            (λ same. (
              id,
              both,
              here,
              live_both,
              longer_whole v.seen w.seen h.history w.seen longest longest.from_other
                  (ap (λ (x : View S). x.seen) (some-injective w one.1 (sym at_w ∙ ap (get_elem? s.views) (sym same) ∙ one.2)) ∙ one.4),
            ))
            (λ no_other. (one.0, one.1, kept one.0 one.1 no_other no_id one.2, one.3, one.4)));
        held_by = λ seat e.
            let old = h.held_by seat e in
            dite (ℕ_discrete seat id)
            (λ same. absurd (true≢false (sym (eq-eqb seat id same) ∙ sym (ap (λ o. is_holder o id) e) ∙ no_v)))
            (λ no_id. dite (ℕ_discrete seat other)
            (λ same. absurd (true≢false (sym (eq-eqb seat other same) ∙ sym (ap (λ o. is_holder o other) e) ∙ no_w)))
            (λ no_other. (old.0, kept seat old.0 no_other no_id old.1, old.2)));
        home = h.home;
        counted = omega (arith, h.counted, count-set is_live joined other w spent_view at_both, count-set is_live s.views id v both at, bit_v, bit_w);
        differ = λ seat next view after e e' lives lives' same.
            let a = (stays seat view e lives).from in
            let b = (stays next after e' lives').from in
            h.differ seat next a.old b.old a.at b.at a.live b.live (a.number ∙ same ∙ sym b.number);
        others = λ number. elim (h.others number) [
          | inl one ↦ dite (ℕ_discrete one.0 id)
              (λ same. inl (id, both, here, live_both, ap (λ (x : View S). x.number) (some-injective v one.1 (sym at ∙ ap (get_elem? s.views) (sym same) ∙ one.2)) ∙ one.4))
              (λ no_id. dite (ℕ_discrete one.0 other)
              (λ same.
              let number_is : w.number ≡ number = ap (λ (x : View S). x.number) (some-injective w one.1 (sym at_w ∙ ap (get_elem? s.views) (sym same) ∙ one.2)) ∙ one.4 in
              inr (subst clear (sym o.all ∙ ap (λ n. entries_of n h.history) number_is) other_clear))
              (λ no_other. inl (one.0, one.1, kept one.0 one.1 no_other no_id one.2, one.3, one.4)))
          | inr clear_before ↦ inr clear_before
        ];
        unmade = h.unmade;
      }
    where
      live_both : is_live (join_both v w) ≡ true
      live_both = refl
