-- The steps by which the opening seat makes a new one, and takes in another.
use Rattle.std.proofs.Common.{◌≡◌, ℕ, ◌+◌, ◌<◌, ◌≤◌, Bool, true, false, ◌||◌, [], ◌∷◌, ◌++◌, set, refl, sym, ap, ap₂, ◌∙◌, subst, subst₂, inl, inr, arith, true≢false, append-nil}
use Rattle.std.specs.Prelude.{flat_map, min, IsPermutation}
use Rattle.std.specs.List.{range_with_len}
use Rattle.std.proofs.lemmas.List.Concat.{flat_map-append}
use Rattle.std.proofs.lemmas.List.Sorted.{IsPermutation-trans}
use mathlib.Core.Option.{some}
use lib.ListN.{get_elem?}
use Rattle.atomic_table.specs.Table.{Splits, Joins}
use Rattle.atomic_table.proofs.Lists.{at_set, set_else}
use Rattle.frame_claims.specs.Rule.{is_live_stage, is_live, is_marked_stage, is_marked, draws_in, Knows, Kept, split_left, split_right, join_both, spent_view}
use Rattle.frame_claims.specs.declared.rule.Span.{Span}
use Rattle.frame_claims.specs.declared.view.Stage.TheVariants.{Idle}
use Rattle.frame_claims.specs.declared.view.View.{View}
use Rattle.frame_claims.proofs.Lists.{bit, at_end, count-set, count-last, flat-set_same, flat-set_both}
use Rattle.frame_claims.proofs.Kept.{draws_live}

pub splits : (span : Span) (id : ℕ) (v : View) → v.stage ≡ Idle → v.opening ≡ true → v.made < 4294967295 → Splits (Kept span) id v (split_left v) (split_right v)
splits span id v idle opening few s h at =
    let live : is_live v ≡ true = ap is_live_stage idle in
    let k = h.each id v at live in
    let counts = k.opening opening in
    let left = split_left v in
    let right = split_right v in
    let views = set s.views id left in
    let all : flat_map draws_in (views ++ right ∷ []) ≡ flat_map draws_in s.views =
    flat_map-append draws_in views (right ∷ []) ∙ append-nil (flat_map draws_in views) ∙ flat-set_same draws_in s.views id v left at refl in
    let bit_v : bit (is_live v) ≡ 1 = ap bit live in
    let no_mark : bit (is_marked v) ≡ 0 = ap (λ stage. bit (is_marked_stage stage)) idle in
    record {
      word = h.word;
      made = h.made + 1;
      joined = h.joined;
      words = h.words;
      drawn = subst (IsPermutation (range_with_len span.first (min h.word span.count))) (sym all) h.drawn;
      each = λ seat view e lives. elim (at_end views right view seat e) [
        | inl old ↦ elim (at_set s.views id seat left view old) [
          | inl t ↦ subst₂ (λ a b. Knows span h.word (h.made + 1) h.joined a b) (sym t.0) t.1 (record {
            first = k.first;
            count = k.count;
            ended = k.ended;
            opening = λ _. (counts.0, ap (λ n. n + 1) counts.1, counts.2);
          })
          | inr t ↦ let u = h.each seat view t.1 lives in record {
            first = u.first;
            count = u.count;
            ended = u.ended;
            opening = λ opens. absurd (t.0 ((u.opening opens).0 ∙ sym counts.0));
          }
        ]
        | inr new ↦ subst (λ b. Knows span h.word (h.made + 1) h.joined seat b) new (record {
          first = k.first;
          count = k.count;
          ended = k.ended;
          opening = λ opens. absurd (true≢false (sym opens));
        })
      ];
      counted = omega (arith, h.counted, count-last is_live views right, count-set is_live s.views id v left at, bit_v);
      room = omega (arith, h.room, count-last is_marked views right, count-set is_marked s.views id v left at, no_mark);
      few = omega (arith, few, counts.1);
    }

either : (a b : Bool) (P : Type 0) → (a ≡ true → P) → (b ≡ true → P) → (a || b) ≡ true → P
either true b P one other e = one refl
either false b P one other e = other e

pub joins : (span : Span) (id other : ℕ) (v w : View) → v.stage ≡ Idle → v.opening ≡ true → w.stage ≡ Idle → w.opening ≡ false → Joins (Kept span) id v other w (join_both v w) spent_view
joins span id other v w idle opening other_idle not_opening s h at apart at_both =
    let both = join_both v w in
    let live : is_live v ≡ true = ap is_live_stage idle in
    let live_w : is_live w ≡ true = ap is_live_stage other_idle in
    let at_w : get_elem? s.views other ≡ some w = sym (set_else s.views id other both apart) ∙ at_both in
    let k = h.each id v at live in
    let o = h.each other w at_w live_w in
    let counts = k.opening opening in
    let joined = set s.views id both in
    let holds : draws_in both ≡ draws_in v ++ draws_in w = draws_live both live ∙ ap₂ (λ a b. a ++ b) (sym (draws_live v live)) (sym (draws_live w live_w)) in
    let bit_v : bit (is_live v) ≡ 1 = ap bit live in
    let bit_w : bit (is_live w) ≡ 1 = ap bit live_w in
    let no_v : bit (is_marked v) ≡ 0 = ap (λ stage. bit (is_marked_stage stage)) idle in
    let no_w : bit (is_marked w) ≡ 0 = ap (λ stage. bit (is_marked_stage stage)) other_idle in
    record {
      word = h.word;
      made = h.made;
      joined = h.joined + 1;
      words = h.words;
      drawn = IsPermutation-trans (range_with_len span.first (min h.word span.count)) (flat_map draws_in s.views) (flat_map draws_in (set joined other spent_view)) h.drawn
          (flat-set_both draws_in s.views id other v w both spent_view at apart at_w holds refl);
      each = λ seat view e lives. elim (at_set joined other seat spent_view view e) [
        | inl t ↦ absurd (true≢false (sym lives ∙ ap is_live (sym t.1)))
        | inr t ↦ elim (at_set s.views id seat both view t.1) [
          | inl u ↦ subst₂ (λ a b. Knows span h.word h.made (h.joined + 1) a b) (sym u.0) u.1 (record {
            first = k.first;
            count = k.count;
            ended = either v.ended w.ended (span.count ≤ h.word) k.ended o.ended;
            opening = λ _. (counts.0, counts.1, ap (λ n. n + 1) counts.2);
          })
          | inr u ↦ let old = h.each seat view u.1 lives in record {
            first = old.first;
            count = old.count;
            ended = old.ended;
            opening = λ opens. absurd (u.0 ((old.opening opens).0 ∙ sym counts.0));
          }
        ]
      ];
      counted = omega (arith, h.counted, count-set is_live joined other w spent_view at_both, count-set is_live s.views id v both at, bit_v, bit_w);
      room = omega (arith, h.room, count-set is_marked joined other w spent_view at_both, count-set is_marked s.views id v both at, no_v, no_w);
      few = h.few;
    }
