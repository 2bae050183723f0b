-- The least and the greatest level that pass a test.
use Rattle.std.specs.Prelude.{sum}
use Rattle.std.specs.List.{range_with_len}
use Rattle.std.proofs.Common.{◌≡◌, ℕ, zero, suc, ◌+◌, ◌-◌, ◌*◌, ◌<◌, ◌≤◌, Bool, true, false, List, get_or, take, drop, if◌then◌else◌, refl, ap, sym, subst, ◌∙◌, arith, ◌⊎◌, inl, inr}
use Rattle.std.proofs.lemmas.Bool.{cases_lt, lt-ltb, le-ltb}
use Rattle.std.proofs.lemmas.List.FromFn.{get_or-range_with_len, length-range_with_len}
use Rattle.std.proofs.lemmas.List.Sums.{sum_by-le, sum_by-take-le, sum_by-take-drop, sum_by_more, sum_by-drop_more, position_or_len_is}
use Rattle.argb_world.specs.Picture.{greatest_part}
use Rattle.fx_analysis.specs.Formulas.{count_to, count_from, is_more, greatest_below, low_of, high_of}
use Rattle.fx_analysis.specs.Counts.{AreCounts}

-- ---- sums of counts

pub sum_within : (counts : List ℕ) → AreCounts counts → sum counts ≤ 256 * greatest_part
sum_within counts are = (let h = sum_by-le (λ x. x) greatest_part counts are.few in omega (arith, h, are.levels))

pub front_more : (counts : List ℕ) (level n m : ℕ) → AreCounts counts → level < 256 → n ≡ sum (take level counts) → m ≡ get_or counts level 0
    → n + m ≡ count_to counts level
front_more counts level n m are l is item =
    let e = sum_by_more (λ x. x) counts level 0 (omega (arith, l, are.levels)) in omega (arith, e, is, item)

pub front_within : (counts : List ℕ) (level : ℕ) → AreCounts counts → count_to counts level ≤ 256 * greatest_part
front_within counts level are = omega (arith, sum_by-take-le (λ x. x) counts (level + 1), sum_within counts are)

pub back_more : (counts : List ℕ) (above n m : ℕ) → AreCounts counts → above < 256 → n ≡ sum (drop (256 - above) counts) → m ≡ get_or counts (255 - above) 0
    → n + m ≡ count_from counts (255 - above)
back_more counts above n m are l is item =
    let e = sum_by-drop_more (λ x. x) counts (255 - above) 0 (omega (arith, l, are.levels)) in
    let next : sum (drop (256 - above) counts) ≡ sum (drop (255 - above + 1) counts) = ap (λ (k : ℕ). sum (drop k counts)) (omega (arith, l)) in
    omega (arith, e, next, is, item)

pub back_within : (counts : List ℕ) (level : ℕ) → AreCounts counts → count_from counts level ≤ 256 * greatest_part
back_within counts level are = omega (arith, sum_by-take-drop (λ x. x) counts level, sum_within counts are)

-- ---- tests

pub more_true : (clip count : ℕ) (counts : List ℕ) → clip * sum counts < 10000 * count → is_more clip counts count ≡ true
more_true clip count counts h = lt-ltb (clip * sum counts) (10000 * count) h

pub more_false : (clip count : ℕ) (counts : List ℕ) → 10000 * count ≤ clip * sum counts → is_more clip counts count ≡ false
more_false clip count counts h = le-ltb (clip * sum counts) (10000 * count) h

-- ---- the least

-- none below it passes
abbrev pub NoneBelow : ℕ → List ℕ → ℕ → Type 0
NoneBelow clip counts level = (k : ℕ) → k < level → is_more clip counts (count_to counts k) ≡ false

pub none_below_more : (clip : ℕ) (counts : List ℕ) (level : ℕ) → NoneBelow clip counts level → is_more clip counts (count_to counts level) ≡ false
    → NoneBelow clip counts (level + 1)
none_below_more clip counts level below here k l = by (cases_lt k level)
  where
    by : (k < level) ⊎ (level ≤ k) → is_more clip counts (count_to counts k) ≡ false
    by (inl less) = below k less
    by (inr more) = (let same : level ≡ k = omega (arith, l, more) in subst (λ (j : ℕ). is_more clip counts (count_to counts j) ≡ false) same here)

pub low_found : (clip : ℕ) (counts : List ℕ) (level : ℕ) → level ≤ 256 → NoneBelow clip counts level
    → (level < 256 → is_more clip counts (count_to counts level) ≡ true) → level ≡ low_of clip counts
unfolding low_of
low_found clip counts level within below here =
    sym (position_or_len_is test (range_with_len 0 256) level 0 (omega (arith, within, length-range_with_len 0 256))
    (λ k l. ap test (place k (omega (arith, l, within))) ∙ below k l)
    (λ l. let low : level < 256 = omega (arith, l, length-range_with_len 0 256) in ap test (place level low) ∙ here low))
  where
    test : ℕ → Bool
    test level = is_more clip counts (count_to counts level)

    place : (k : ℕ) → k < 256 → get_or (range_with_len 0 256) k 0 ≡ k
    place k l = (let e = get_or-range_with_len 0 256 k 0 l in omega (arith, e))

-- ---- the greatest

greatest_is : (test : ℕ → Bool) (n i : ℕ) → i < n → test i ≡ true → ((k : ℕ) → i < k → k < n → test k ≡ false) → greatest_below test n ≡ i
greatest_is test zero i l here above = absurd (omega (arith, l))
greatest_is test (suc n) i l here above = by (cases_lt i n) (greatest_is test n i)
  where
    by : (i < n) ⊎ (n ≤ i) → (i < n → test i ≡ true → ((k : ℕ) → i < k → k < n → test k ≡ false) → greatest_below test n ≡ i) → (if test n then n else greatest_below test n) ≡ i
    by (inl less) again =
        ap (λ (b : Bool). if b then n else greatest_below test n) (above n less (omega arith))
        ∙ again less here (λ k m h. above k m (omega (arith, h)))
    by (inr more) again =
        let same : i ≡ n = omega (arith, l, more) in
        ap (λ (b : Bool). if b then n else greatest_below test n) (subst (λ (j : ℕ). test j ≡ true) same here) ∙ sym same

greatest_none : (test : ℕ → Bool) (n : ℕ) → ((k : ℕ) → k < n → test k ≡ false) → greatest_below test n ≡ 0
greatest_none test zero none = refl
greatest_none test (suc n) none =
    ap (λ (b : Bool). if b then n else greatest_below test n) (none n (omega arith)) ∙ greatest_none test n (λ k l. none k (omega (arith, l)))

-- none of the upper ones passes
abbrev pub NoneAbove : ℕ → List ℕ → ℕ → Type 0
NoneAbove clip counts upper = (k : ℕ) → 256 ≤ k + upper → k < 256 → is_more clip counts (count_from counts k) ≡ false

pub none_above_more : (clip : ℕ) (counts : List ℕ) (upper : ℕ) → upper < 256 → NoneAbove clip counts upper
    → is_more clip counts (count_from counts (255 - upper)) ≡ false → NoneAbove clip counts (upper + 1)
none_above_more clip counts upper few above here k far l = by (cases_lt (255 - upper) k)
  where
    by : (255 - upper < k) ⊎ (k ≤ 255 - upper) → is_more clip counts (count_from counts k) ≡ false
    by (inl more) = above k (omega (arith, more, few)) l
    by (inr less) =
        let same : 255 - upper ≡ k = omega (arith, far, less, few) in
        subst (λ (j : ℕ). is_more clip counts (count_from counts j) ≡ false) same here

pub high_found : (clip : ℕ) (counts : List ℕ) (upper : ℕ) → upper < 256 → NoneAbove clip counts upper
    → is_more clip counts (count_from counts (255 - upper)) ≡ true → 255 - upper ≡ high_of clip counts
unfolding high_of
high_found clip counts upper few above here =
    sym (greatest_is (λ level. is_more clip counts (count_from counts level)) 256 (255 - upper) (omega arith) here (λ k m l. above k (omega (arith, m, few)) l))

pub high_none : (clip : ℕ) (counts : List ℕ) (upper : ℕ) → 256 ≤ upper → NoneAbove clip counts upper → 0 ≡ high_of clip counts
unfolding high_of
high_none clip counts upper all above =
    sym (greatest_none (λ level. is_more clip counts (count_from counts level)) 256 (λ k l. above k (omega (arith, all)) l))
