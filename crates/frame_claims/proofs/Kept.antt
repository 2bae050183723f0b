-- What the rule says to a live view, and the rule after a step by which one view changes.
use Rattle.std.proofs.Common.{◌≡◌, ℕ, ◌+◌, ◌≤◌, true, false, cond, List, [], ◌∷◌, ◌++◌, set, refl, sym, ap, ◌∙◌, subst, subst₂, inl, inr, arith}
use Rattle.std.specs.Prelude.{count_by, flat_map, min, IsPermutation}
use Rattle.std.specs.List.{range_with_len}
use Rattle.std.proofs.lemmas.List.Sorted.{IsPermutation-trans}
use mathlib.Core.Option.{some}
use lib.ListN.{get_elem?}
use Rattle.atomic_table.specs.Table.{State}
use Rattle.atomic_table.proofs.Lists.{at_set}
use Rattle.frame_claims.specs.Rule.{is_live, is_marked, draws_in, Knows, Kept, spent_view}
use Rattle.frame_claims.specs.Told.{Told, TellsOf}
use Rattle.frame_claims.specs.declared.rule.Span.{Span}
use Rattle.frame_claims.specs.declared.view.View.{View}
use Rattle.frame_claims.proofs.Lists.{bit, count-set, in_front, flat_alone}
use Rattle.frame_claims.proofs.Numbers.{part_within, part_once, part_few}

-- what a view knows as the word rises
pub knows_later : (span : Span) (word word' made joined seat : ℕ) (view : View) → word ≤ word' → Knows span word made joined seat view → Knows span word' made joined seat view
knows_later span word word' made joined seat view rises k = record {
  first = k.first;
  count = k.count;
  ended = λ e. let was = k.ended e in omega (arith, was, rises);
  opening = k.opening;
}

-- a live view holds its draws, and no other holds any
pub draws_live : (v : View) → is_live v ≡ true → draws_in v ≡ v.draws
draws_live v live = ap (λ b. cond b v.draws []) live

pub draws_spent : (v : View) → is_live v ≡ false → draws_in v ≡ []
draws_spent v spent = ap (λ b. cond b v.draws []) spent

module _ (span : Span) (s : State Unit View) (h : Kept span s) (id : ℕ) (v : View) (at : get_elem? s.views id ≡ some v) (live : is_live v ≡ true) where
  pub told : TellsOf h.word v
  told =
      let k = h.each id v at live in
      let n = min h.word span.count in
      let others = flat_map draws_in (set s.views id spent_view) in
      let part : IsPermutation (range_with_len span.first n) (v.draws ++ others) =
      subst (λ l. IsPermutation (range_with_len span.first n) (l ++ others)) (draws_live v live)
      (IsPermutation-trans (range_with_len span.first n) (flat_map draws_in s.views) (draws_in v ++ others) h.drawn (in_front draws_in s.views id v spent_view at refl)) in
      subst₂ (λ first count. Told first count h.word v) (sym k.first) (sym k.count) (record {
        within = part_within span.first n v.draws others part;
        once = part_once span.first n v.draws others part;
        few = part_few span.first n v.draws others part;
        alone = λ opening last.
            let counts = k.opening opening in
            let one : count_by is_live s.views ≡ 1 = omega (arith, h.counted, counts.1, counts.2, last) in
            subst (IsPermutation (range_with_len span.first n)) (flat_alone draws_in is_live draws_spent s.views id v one at live ∙ draws_live v live) h.drawn;
        ended = k.ended;
      })

  pub rebuilt : (w : View) (word : ℕ) (words : List ℕ) → words ≡ word ∷ [] → is_live w ≡ true → h.word ≤ word
      → IsPermutation (range_with_len span.first (min word span.count)) (flat_map draws_in (set s.views id w))
      → Knows span word h.made h.joined id w
      → word + count_by is_marked (set s.views id w) ≤ span.count + h.made
      → Kept span (record { words = words; homes = s.homes; views = set s.views id w })
  rebuilt w word words is lives rises drawn own room =
      let one : bit (is_live v) ≡ 1 = ap bit live in
      let one' : bit (is_live w) ≡ 1 = ap bit lives in
      record {
        word = word;
        made = h.made;
        joined = h.joined;
        words = is;
        drawn = drawn;
        each = λ seat view e l. elim (at_set s.views id seat w view e) [
          | inl t ↦ subst₂ (λ a b. Knows span word h.made h.joined a b) (sym t.0) t.1 own
          | inr t ↦ knows_later span h.word word h.made h.joined seat view rises (h.each seat view t.1 l)
        ];
        counted = omega (arith, h.counted, count-set is_live s.views id v w at, one, one');
        room = room;
        few = h.few;
      }
