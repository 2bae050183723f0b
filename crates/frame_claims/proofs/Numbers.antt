-- Numbers one after another, and what is drawn of them.
use Rattle.std.proofs.Common.{◌≡◌, ℕ, zero, suc, ◌+◌, ◌<◌, ◌≤◌, List, [], ◌∷◌, ◌++◌, length, length-append, refl, sym, ap, ◌∙◌, subst, arith, eq-eqb, ne_eqb, nat_eq, take_at, map-id}
use Rattle.std.specs.Prelude.{All, count_by, IsPermutation}
use Rattle.std.specs.List.{range_with_len}
use Rattle.std.proofs.lemmas.List.Sums.{sum_by-cons, sum_by-append}
use Rattle.std.proofs.lemmas.List.Sorted.{All-permutation, sum_by-IsPermutation, length_permutation}
use Rattle.std.proofs.lemmas.List.Elements.{All-from_get_or, All-take, All-head, All-tail}
use Rattle.std.proofs.lemmas.List.FromFn.{length-range_with_len, get_or-range_with_len, map-range_with_len_more}
use mathlib.Core.Logic.{dite}
use native.Mathlib.Decide.{ℕ_discrete}
use Rattle.frame_claims.specs.Claims.{AreOnce}
use Rattle.frame_claims.proofs.Lists.{bit}

pub range_more : (a n : ℕ) → range_with_len a (n + 1) ≡ range_with_len a n ++ (a + n) ∷ []
range_more a n = sym (map-id (range_with_len a (n + 1))) ∙ map-range_with_len_more (λ x. x) a n (a + n) refl ∙ ap (λ l. l ++ (a + n) ∷ []) (map-id (range_with_len a n))

range_within : (a n : ℕ) → All (λ x. (a ≤ x) × (x < a + n)) (range_with_len a n)
range_within a n = All-from_get_or (λ x. (a ≤ x) × (x < a + n)) (range_with_len a n) 0
    (λ i lt.
    let below : i < n = omega (arith, lt, length-range_with_len a n) in
    let is = get_or-range_with_len a n i 0 below in
    (omega (arith, is), omega (arith, is, below)))

range_below : (a n m : ℕ) → m < a → count_by (nat_eq m) (range_with_len a n) ≡ 0
range_below a zero m lt = refl
range_below a (suc n) m lt =
    let no : bit (nat_eq m a) ≡ 0 = ap bit (ne_eqb m a (λ e. omega (arith, e, lt))) in
    omega (arith, sum_by-cons (λ x. bit (nat_eq m x)) a (range_with_len (a + 1) n), no, range_below (a + 1) n m (omega (arith, lt)))

range_once : (a n : ℕ) → AreOnce (range_with_len a n)
range_once a zero m = omega arith
range_once a (suc n) m = dite (ℕ_discrete m a)
    (λ e.
    let yes : bit (nat_eq m a) ≡ 1 = ap bit (eq-eqb m a e) in
    omega (arith, sum_by-cons (λ x. bit (nat_eq m x)) a (range_with_len (a + 1) n), yes, range_below (a + 1) n m (omega (arith, e))))
    (λ differs.
    let no : bit (nat_eq m a) ≡ 0 = ap bit (ne_eqb m a differs) in
    omega (arith, sum_by-cons (λ x. bit (nat_eq m x)) a (range_with_len (a + 1) n), no, range_once (a + 1) n m))

-- a part of the numbers, the rest of which others have
module _ (a n : ℕ) (draws others : List ℕ) (is : IsPermutation (range_with_len a n) (draws ++ others)) where
  pub part_within : All (λ x. (a ≤ x) × (x < a + n)) draws
  part_within =
      subst (All (λ x. (a ≤ x) × (x < a + n))) (take_at draws others (length draws) refl)
      (All-take (λ x. (a ≤ x) × (x < a + n)) (length draws) (draws ++ others) (All-permutation (λ x. (a ≤ x) × (x < a + n)) (range_with_len a n) (draws ++ others) is (range_within a n)))

  pub part_once : AreOnce draws
  part_once m = omega (arith, range_once a n m, sum_by-IsPermutation (λ x. bit (nat_eq m x)) (range_with_len a n) (draws ++ others) is, sum_by-append (λ x. bit (nat_eq m x)) draws others)

  pub part_few : length draws ≤ n
  part_few = omega (arith, length_permutation (range_with_len a n) (draws ++ others) is, length-range_with_len a n, length-append draws others)

-- numbers below another hold it nowhere
none_of : (m : ℕ) (xs : List ℕ) → All (λ x. x < m) xs → count_by (nat_eq m) xs ≡ 0
none_of m [] all = refl
none_of m (x ∷ xs) all =
    let below : x < m = All-head (λ x. x < m) x xs all in
    let no : bit (nat_eq m x) ≡ 0 = ap bit (ne_eqb m x (λ e. omega (arith, e, below))) in
    omega (arith, sum_by-cons (λ x. bit (nat_eq m x)) x xs, no, none_of m xs (All-tail (λ x. x < m) x xs all))

-- one number above the others is no repetition
pub once_more : (xs : List ℕ) (y : ℕ) → AreOnce xs → All (λ x. x < y) xs → AreOnce (xs ++ y ∷ [])
once_more xs y once below m = dite (ℕ_discrete m y)
    (λ e.
    let none : count_by (nat_eq m) xs ≡ 0 = ap (λ n. count_by (nat_eq n) xs) e ∙ none_of y xs below in
    let one : bit (nat_eq m y) ≡ 1 = ap bit (eq-eqb m y e) in
    omega (arith, sum_by-append (λ x. bit (nat_eq m x)) xs (y ∷ []), sum_by-cons (λ x. bit (nat_eq m x)) y [], none, one))
    (λ differs.
    let no : bit (nat_eq m y) ≡ 0 = ap bit (ne_eqb m y differs) in
    omega (arith, sum_by-append (λ x. bit (nat_eq m x)) xs (y ∷ []), sum_by-cons (λ x. bit (nat_eq m x)) y [], no, once m))

-- all the numbers are as many
pub range_counted : (a n : ℕ) (draws : List ℕ) → IsPermutation (range_with_len a n) draws → length draws ≡ n
range_counted a n draws is = length_permutation (range_with_len a n) draws is ∙ length-range_with_len a n
