-- The steps of a claim: a look, and a draw.
use Rattle.std.proofs.Common.{◌≡◌, ℕ, ◌+◌, ◌^◌, ◌%◌, ◌<◌, ◌≤◌, true, [], ◌∷◌, ◌++◌, set, refl, sym, ap, ◌∙◌, subst, subst₂, arith, true≢false}
use Rattle.std.specs.Prelude.{slice_index, flat_map, min, IsPermutation}
use Rattle.std.specs.List.{range_with_len}
use Rattle.std.proofs.Math.Nat.{min-eq_left, min-eq_right, mod-eq_of_lt}
use Rattle.std.proofs.lemmas.List.Sorted.{IsPermutation-trans, IsPermutation-append_left}
use mathlib.Core.Logic.{dite}
use mathlib.Core.Option.{none, some}
use native.Mathlib.Decide.{dec_le}
use lib.ListN.{get_elem?}
use Rattle.atomic_table.specs.Table.{State, Act, Me, Allows, Valid, stepped, carried_after, step, keeps}
use Rattle.atomic_table.proofs.Lists.{set_again}
use Rattle.frame_claims.specs.Rule.{is_live_stage, is_live, is_marked_stage, is_marked, draws_in, Kept}
use Rattle.frame_claims.specs.Told.{TellsOf, marked, at_end, with_draw, looked, drew, asked}
use Rattle.frame_claims.specs.declared.rule.Span.{Span}
use Rattle.frame_claims.specs.declared.view.Stage.TheVariants.{Spent, Idle, Marked}
use Rattle.frame_claims.specs.declared.view.View.{View}
use Rattle.frame_claims.proofs.Lists.{bit, count-set, some_counts, count_fewer, flat-set_same, flat-set_more}
use Rattle.frame_claims.proofs.Numbers.{range_more}
use Rattle.frame_claims.proofs.Kept.{draws_live, told, rebuilt}

marked_live : (v : View) → is_marked v ≡ true → is_live v ≡ true
marked_live v e = by v.stage e
  where
    by : (stage : _) → is_marked_stage stage ≡ true → is_live_stage stage ≡ true
    by Spent e = absurd (true≢false (sym e))
    by Idle e = refl
    by Marked e = refl

module _ (span : Span) (id : ℕ) (v : View) (s : State Unit View) (h : Kept span s) (at : get_elem? s.views id ≡ some v) where
  -- the word that a step finds
  found_is : slice_index s.words 0 ≡ h.word
  found_is = ap (λ l. slice_index l 0) h.words

  words_are : (f : ℕ → ℕ) (n : ℕ) → f h.word ≡ n → set s.words 0 (f (slice_index s.words 0)) ≡ n ∷ []
  words_are f n e = ap (λ l. set l 0 (f (slice_index l 0))) h.words ∙ ap (λ m. m ∷ []) e

  -- what a step of the view with no slot in hand comes to
  abbrev Goal : (ℕ → ℕ) → (ℕ → Me Unit View → Type 0) → Type 0
  Goal f then = (w : View) × (a : Act Unit) × Valid s.homes [] a × Kept span (stepped s 0 (f (slice_index s.words 0)) id [] w a) × then (slice_index s.words 0) (w, carried_after [] a)

  told_found : is_live v ≡ true → TellsOf (slice_index s.words 0) v
  told_found live = subst (λ n. TellsOf n v) (sym found_is) (told span s h id v at live)

  -- a view that is idle finds that all was drawn
  look_end : (slots : ℕ) → v.stage ≡ Idle → v.count ≤ slice_index s.words 0 → Goal (λ n. n) (looked (step slots 0 0 0 none) (v, []))
  look_end slots idle le =
      let live : is_live v ≡ true = ap is_live_stage idle in
      let k = h.each id v at live in
      let w = at_end v in
      let e = found_is in
      let no : bit (is_marked v) ≡ 0 = ap (λ stage. bit (is_marked_stage stage)) idle in
      let no' : bit (is_marked w) ≡ 0 = refl in (
        w,
        keeps,
        tt,
        rebuilt span s h id v at live w h.word (set s.words 0 (slice_index s.words 0)) (words_are (λ n. n) h.word refl) refl (omega arith)
            (subst (IsPermutation (range_with_len span.first (min h.word span.count))) (sym (flat-set_same draws_in s.views id v w at (sym (draws_live v live)))) h.drawn)
            (record { first = k.first; count = k.count; ended = λ _. omega (arith, le, e, k.count); opening = k.opening })
            (omega (arith, h.room, count-set is_marked s.views id v w at, no, no')),
        (told_found live, (λ lt. absurd (omega (arith, lt, le))), λ _. refl),
      )

  -- a view that is idle finds a number left, and is marked
  look_left : (slots : ℕ) → v.stage ≡ Idle → slice_index s.words 0 < v.count → Goal (λ n. n) (looked (step slots 0 0 0 none) (v, []))
  look_left slots idle lt =
      let live : is_live v ≡ true = ap is_live_stage idle in
      let k = h.each id v at live in
      let w = marked v in
      let e = found_is in
      let one : bit (is_live v) ≡ 1 = ap bit live in
      let one' : bit (is_live w) ≡ 1 = refl in (
        w,
        keeps,
        tt,
        rebuilt span s h id v at live w h.word (set s.words 0 (slice_index s.words 0)) (words_are (λ n. n) h.word refl) refl (omega arith)
            (subst (IsPermutation (range_with_len span.first (min h.word span.count))) (sym (flat-set_same draws_in s.views id v w at (sym (draws_live v live)))) h.drawn)
            (record { first = k.first; count = k.count; ended = k.ended; opening = k.opening })
            (omega (arith, lt, e, k.count, h.counted, count_fewer is_live is_marked marked_live (set s.views id w), count-set is_live s.views id v w at, one, one')),
        (told_found live, (λ _. refl), λ le. absurd (omega (arith, lt, le))),
      )

  -- the word after a draw, which does not wrap
  raised : span.count ≤ 4294967295 → is_marked v ≡ true → (h.word + 1) % 2 ^ 64 ≡ h.word + 1
  raised small marks = mod-eq_of_lt (omega (arith, h.room, h.few, small, some_counts is_marked s.views id v at marks))

  -- a marked view draws the number that it finds
  draw_one : (slots : ℕ) → span.count ≤ 4294967295 → v.stage ≡ Marked → slice_index s.words 0 < v.count → Goal (λ n. (n + 1) % 2 ^ 64) (drew (step slots 0 1 0 none) (v, []))
  draw_one slots small marks lt =
      let live : is_live v ≡ true = ap is_live_stage marks in
      let k = h.each id v at live in
      let w = with_draw (slice_index s.words 0) v in
      let e = found_is in
      let is_mark : is_marked v ≡ true = ap is_marked_stage marks in
      let one : bit (is_marked v) ≡ 1 = ap bit is_mark in
      let none' : bit (is_marked w) ≡ 0 = refl in
      let number : v.first + slice_index s.words 0 ≡ span.first + h.word = omega (arith, k.first, e) in
      let before : min h.word span.count ≡ h.word = min-eq_left (omega (arith, lt, e, k.count)) in
      let after : min (h.word + 1) span.count ≡ h.word + 1 = min-eq_left (omega (arith, lt, e, k.count)) in
      let drawn : IsPermutation (range_with_len span.first h.word) (flat_map draws_in s.views) = subst (λ n. IsPermutation (range_with_len span.first n) (flat_map draws_in s.views)) before h.drawn in
      let more : draws_in w ≡ draws_in v ++ (span.first + h.word) ∷ [] = ap (λ n. v.draws ++ n ∷ []) number ∙ ap (λ l. l ++ (span.first + h.word) ∷ []) (sym (draws_live v live)) in (
        w,
        keeps,
        tt,
        rebuilt span s h id v at live w (h.word + 1) (set s.words 0 ((slice_index s.words 0 + 1) % 2 ^ 64)) (words_are (λ n. (n + 1) % 2 ^ 64) (h.word + 1) (raised small is_mark)) refl (omega arith)
            (subst (λ l. IsPermutation l (flat_map draws_in (set s.views id w))) (sym (ap (range_with_len span.first) after ∙ range_more span.first h.word))
            (IsPermutation-trans (range_with_len span.first h.word ++ (span.first + h.word) ∷ []) (flat_map draws_in s.views ++ (span.first + h.word) ∷ []) (flat_map draws_in (set s.views id w))
            (IsPermutation-append_left ((span.first + h.word) ∷ []) (range_with_len span.first h.word) (flat_map draws_in s.views) drawn)
            (flat-set_more draws_in s.views id v w (span.first + h.word) at more)))
            (record { first = k.first; count = k.count; ended = λ was. let past = k.ended was in omega (arith, past); opening = k.opening })
            (omega (arith, h.room, count-set is_marked s.views id v w at, one, none')),
        (told_found live, (λ _. refl), λ le. absurd (omega (arith, lt, le))),
      )

  -- a marked view draws too late
  draw_late : (slots : ℕ) → span.count ≤ 4294967295 → v.stage ≡ Marked → v.count ≤ slice_index s.words 0 → Goal (λ n. (n + 1) % 2 ^ 64) (drew (step slots 0 1 0 none) (v, []))
  draw_late slots small marks le =
      let live : is_live v ≡ true = ap is_live_stage marks in
      let k = h.each id v at live in
      let w = at_end v in
      let e = found_is in
      let is_mark : is_marked v ≡ true = ap is_marked_stage marks in
      let one : bit (is_marked v) ≡ 1 = ap bit is_mark in
      let none' : bit (is_marked w) ≡ 0 = refl in
      let before : min h.word span.count ≡ span.count = min-eq_right (omega (arith, le, e, k.count)) in
      let after : min (h.word + 1) span.count ≡ span.count = min-eq_right (omega (arith, le, e, k.count)) in
      let same : flat_map draws_in (set s.views id w) ≡ flat_map draws_in s.views = flat-set_same draws_in s.views id v w at (sym (draws_live v live)) in (
        w,
        keeps,
        tt,
        rebuilt span s h id v at live w (h.word + 1) (set s.words 0 ((slice_index s.words 0 + 1) % 2 ^ 64)) (words_are (λ n. (n + 1) % 2 ^ 64) (h.word + 1) (raised small is_mark)) refl (omega arith)
            (subst₂ (λ n l. IsPermutation (range_with_len span.first n) l) (before ∙ sym after) (sym same) h.drawn)
            (record { first = k.first; count = k.count; ended = λ _. omega (arith, le, e, k.count); opening = k.opening })
            (omega (arith, h.room, count-set is_marked s.views id v w at, one, none')),
        (told_found live, (λ lt. absurd (omega (arith, lt, le))), λ _. refl),
      )

-- a view that is idle may look
pub looks : (span : Span) (slots id : ℕ) (v : View) → v.stage ≡ Idle → Allows (Kept span) slots id (v, []) 0 (λ n. n) (looked (step slots 0 0 0 none) (v, []))
looks span slots id v idle s h fits at wide = dite (dec_le v.count (slice_index s.words 0))
    (λ le. look_end span id v s h at slots idle le)
    (λ no. look_left span id v s h at slots idle (omega (arith, no)))

-- a view that is marked may draw
pub draws : (span : Span) (slots id : ℕ) (v : View) → span.count ≤ 4294967295 → v.stage ≡ Marked → Allows (Kept span) slots id (v, []) 0 (λ n. (n + 1) % 2 ^ 64) (drew (step slots 0 1 0 none) (v, []))
draws span slots id v small marks s h fits at wide = dite (dec_le v.count (slice_index s.words 0))
    (λ le. draw_late span id v s h at slots small marks le)
    (λ no. draw_one span id v s h at slots small marks (omega (arith, no)))

-- a live view may ask
pub asks : (span : Span) (slots id : ℕ) (v : View) → is_live v ≡ true → Allows (Kept span) slots id (v, []) 0 (λ n. n) (asked (step slots 0 0 0 none) (v, []))
asks span slots id v live s h fits at wide = (
  v,
  keeps,
  tt,
  subst₂ (λ a b. Kept span (record { words = a; homes = s.homes; views = b })) (sym (words_are span id v s h at (λ n. n) h.word refl ∙ sym h.words)) (sym (set_again s.views id v at)) h,
  (refl, told_found span id v s h at live),
)
