-- Lists of views: one is written, one is added, and how many pass a test.
use Rattle.std.proofs.Common.{◌≡◌, ℕ, zero, suc, ◌+◌, ◌<◌, ◌≤◌, ◌⊎◌, Bool, true, cond, List, [], ◌∷◌, ◌++◌, length, set, refl, sym, ap, ◌∙◌, inl, inr, arith}
use Rattle.std.specs.Prelude.{count_by}
use Rattle.std.proofs.lemmas.List.Sums.{sum_by-cons, sum_by-append}
use mathlib.Core.Option.{some, some-injective, some-ne-none}
use lib.ListN.{get_elem?}

abbrev pub bit : Bool → ℕ
bit b = cond b 1 0

module _ {A : Type 0} where
  pub there : (l : List A) (i : ℕ) (a b : A) → get_elem? l i ≡ some a → get_elem? (set l i b) i ≡ some b
  there [] i a b e = absurd (some-ne-none a (sym e))
  there (x ∷ xs) zero a b e = refl
  there (x ∷ xs) (suc i) a b e = there xs i a b e

  pub within : (l : List A) (i : ℕ) (a : A) → get_elem? l i ≡ some a → i < length l
  within [] i a e = absurd (some-ne-none a (sym e))
  within (x ∷ xs) zero a e = omega arith
  within (x ∷ xs) (suc i) a e = let h = within xs i a e in omega arith

  -- an item of a list with one more is an old one, or the last
  pub at_end : (l : List A) (a b : A) (j : ℕ) → get_elem? (l ++ a ∷ []) j ≡ some b → (get_elem? l j ≡ some b) ⊎ ((j ≡ length l) × (a ≡ b))
  at_end [] a b zero e = inr (refl, some-injective a b e)
  at_end [] a b (suc j) e = absurd (some-ne-none b (sym e))
  at_end (x ∷ xs) a b zero e = inl e
  at_end (x ∷ xs) a b (suc j) e = at_more (at_end xs a b j e)
    where
      at_more : ((get_elem? xs j ≡ some b) ⊎ ((j ≡ length xs) × (a ≡ b))) → (get_elem? xs j ≡ some b) ⊎ ((suc j ≡ suc (length xs)) × (a ≡ b))
      at_more (inl h) = inl h
      at_more (inr h) = inr (ap suc h.0, h.1)

  pub count-set : (p : A → Bool) (l : List A) (i : ℕ) (a b : A) → get_elem? l i ≡ some a → count_by p (set l i b) + bit (p a) ≡ count_by p l + bit (p b)
  count-set p [] i a b e = absurd (some-ne-none a (sym e))
  count-set p (x ∷ xs) zero a b e =
      let same : x ≡ a = some-injective x a e in
      omega (arith, sum_by-cons (λ y. bit (p y)) b xs, sum_by-cons (λ y. bit (p y)) x xs, ap (λ y. bit (p y)) same)
  count-set p (x ∷ xs) (suc i) a b e =
      omega (arith, sum_by-cons (λ y. bit (p y)) x (set xs i b), sum_by-cons (λ y. bit (p y)) x xs, count-set p xs i a b e)

  pub count-last : (p : A → Bool) (l : List A) (a : A) → count_by p (l ++ a ∷ []) ≡ count_by p l + bit (p a)
  count-last p l a = omega (arith, sum_by-append (λ y. bit (p y)) l (a ∷ []), sum_by-cons (λ y. bit (p y)) a [])

  some_counts : (p : A → Bool) (l : List A) (i : ℕ) (a : A) → get_elem? l i ≡ some a → p a ≡ true → 1 ≤ count_by p l
  some_counts p [] i a e passes = absurd (some-ne-none a (sym e))
  some_counts p (x ∷ xs) zero a e passes =
      let one : bit (p x) ≡ 1 = ap (λ y. bit (p y)) (some-injective x a e) ∙ ap bit passes in
      omega (arith, sum_by-cons (λ y. bit (p y)) x xs, one)
  some_counts p (x ∷ xs) (suc i) a e passes = omega (arith, sum_by-cons (λ y. bit (p y)) x xs, some_counts p xs i a e passes)

  -- where one item passes, each that does is that one
  pub only_one : (p : A → Bool) (l : List A) (i j : ℕ) (a b : A) → count_by p l ≡ 1 → get_elem? l i ≡ some a → p a ≡ true → get_elem? l j ≡ some b → p b ≡ true → i ≡ j
  only_one p [] i j a b one ei pi ej pj = absurd (some-ne-none a (sym ei))
  only_one p (x ∷ xs) zero zero a b one ei pi ej pj = refl
  only_one p (x ∷ xs) zero (suc j) a b one ei pi ej pj =
      let here : bit (p x) ≡ 1 = ap (λ y. bit (p y)) (some-injective x a ei) ∙ ap bit pi in
      absurd (omega (arith, sum_by-cons (λ y. bit (p y)) x xs, here, one, some_counts p xs j b ej pj))
  only_one p (x ∷ xs) (suc i) zero a b one ei pi ej pj =
      let here : bit (p x) ≡ 1 = ap (λ y. bit (p y)) (some-injective x b ej) ∙ ap bit pj in
      absurd (omega (arith, sum_by-cons (λ y. bit (p y)) x xs, here, one, some_counts p xs i a ei pi))
  only_one p (x ∷ xs) (suc i) (suc j) a b one ei pi ej pj =
      ap suc (only_one p xs i j a b (omega (arith, sum_by-cons (λ y. bit (p y)) x xs, one, some_counts p xs i a ei pi)) ei pi ej pj)
