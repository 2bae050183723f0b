-- Lists of items that hold lists: what they hold together, and how many pass a test.
use Rattle.std.proofs.Common.{◌≡◌, ◌≢◌, ℕ, zero, suc, ◌+◌, ◌≤◌, ◌⊎◌, Bool, true, false, cond, List, [], ◌∷◌, ◌++◌, set, refl, sym, ap, ap₂, ◌∙◌, subst, subst₂, inl, inr, arith, append_assoc, append-nil, set-set}
use Rattle.std.specs.Prelude.{count_by, flat_map, IsPermutation}
use Rattle.std.proofs.lemmas.List.{set_comm}
use Rattle.std.proofs.lemmas.List.Sums.{sum_by-cons, sum_by-append}
use Rattle.std.proofs.lemmas.List.Sorted.{IsPermutation-refl, IsPermutation-sym, IsPermutation-trans, IsPermutation-append_left, IsPermutation-append_right, IsPermutation-append_comm}
use mathlib.Core.Option.{some, some-injective, some-ne-none}
use lib.ListN.{get_elem?}
use Rattle.atomic_table.proofs.Lists.{set_else}

abbrev pub bit : Bool → ℕ
bit b = cond b 1 0

bit_le : (b c : Bool) → (b ≡ true → c ≡ true) → bit b ≤ bit c
bit_le false c implies = omega arith
bit_le true c implies = let e : bit c ≡ 1 = ap bit (implies refl) in omega (arith, e)

module _ {A : Type 0} where
  pub there : (l : List A) (i : ℕ) (a b : A) → get_elem? l i ≡ some a → get_elem? (set l i b) i ≡ some b
  there [] i a b e = absurd (some-ne-none a (sym e))
  there (x ∷ xs) zero a b e = refl
  there (x ∷ xs) (suc i) a b e = there xs i a b e

  -- an item of a list with one more is an old one, or the last
  pub at_end : (l : List A) (a b : A) (j : ℕ) → get_elem? (l ++ a ∷ []) j ≡ some b → (get_elem? l j ≡ some b) ⊎ (a ≡ b)
  at_end [] a b zero e = inr (some-injective a b e)
  at_end [] a b (suc j) e = absurd (some-ne-none b (sym e))
  at_end (x ∷ xs) a b zero e = inl e
  at_end (x ∷ xs) a b (suc j) e = at_end xs a b j e

  pub count-set : (p : A → Bool) (l : List A) (i : ℕ) (a b : A) → get_elem? l i ≡ some a → count_by p (set l i b) + bit (p a) ≡ count_by p l + bit (p b)
  count-set p [] i a b e = absurd (some-ne-none a (sym e))
  count-set p (x ∷ xs) zero a b e =
      let same : x ≡ a = some-injective x a e in
      omega (arith, sum_by-cons (λ y. bit (p y)) b xs, sum_by-cons (λ y. bit (p y)) x xs, ap (λ y. bit (p y)) same)
  count-set p (x ∷ xs) (suc i) a b e =
      omega (arith, sum_by-cons (λ y. bit (p y)) x (set xs i b), sum_by-cons (λ y. bit (p y)) x xs, count-set p xs i a b e)

  pub count-last : (p : A → Bool) (l : List A) (a : A) → count_by p (l ++ a ∷ []) ≡ count_by p l + bit (p a)
  count-last p l a = omega (arith, sum_by-append (λ y. bit (p y)) l (a ∷ []), sum_by-cons (λ y. bit (p y)) a [])

  pub some_counts : (p : A → Bool) (l : List A) (i : ℕ) (a : A) → get_elem? l i ≡ some a → p a ≡ true → 1 ≤ count_by p l
  some_counts p [] i a e passes = absurd (some-ne-none a (sym e))
  some_counts p (x ∷ xs) zero a e passes =
      let one : bit (p x) ≡ 1 = ap (λ y. bit (p y)) (some-injective x a e) ∙ ap bit passes in
      omega (arith, sum_by-cons (λ y. bit (p y)) x xs, one)
  some_counts p (x ∷ xs) (suc i) a e passes = omega (arith, sum_by-cons (λ y. bit (p y)) x xs, some_counts p xs i a e passes)

  -- where a test is stricter than another, fewer pass it
  pub count_fewer : (p q : A → Bool) → ((x : A) → q x ≡ true → p x ≡ true) → (l : List A) → count_by q l ≤ count_by p l
  count_fewer p q stricter [] = omega arith
  count_fewer p q stricter (x ∷ xs) =
      omega (arith, sum_by-cons (λ y. bit (p y)) x xs, sum_by-cons (λ y. bit (q y)) x xs, bit_le (q x) (p x) (stricter x), count_fewer p q stricter xs)

swapped : {B : Type 0} (xs ys zs : List B) → IsPermutation (xs ++ (ys ++ zs)) (ys ++ (xs ++ zs))
swapped xs ys zs = subst₂ IsPermutation (append_assoc xs ys zs) (append_assoc ys xs zs) (IsPermutation-append_left zs (xs ++ ys) (ys ++ xs) (IsPermutation-append_comm xs ys))

module _ {A B : Type 0} (f : A → List B) where
  -- an item that holds the same
  pub flat-set_same : (l : List A) (i : ℕ) (a b : A) → get_elem? l i ≡ some a → f b ≡ f a → flat_map f (set l i b) ≡ flat_map f l
  flat-set_same [] i a b e same = absurd (some-ne-none a (sym e))
  flat-set_same (x ∷ xs) zero a b e same = ap (λ y. y ++ flat_map f xs) (same ∙ ap f (sym (some-injective x a e)))
  flat-set_same (x ∷ xs) (suc i) a b e same = ap (λ y. f x ++ y) (flat-set_same xs i a b e same)

  -- an item that holds one thing more
  pub flat-set_more : (l : List A) (i : ℕ) (a b : A) (y : B) → get_elem? l i ≡ some a → f b ≡ f a ++ y ∷ [] → IsPermutation (flat_map f l ++ y ∷ []) (flat_map f (set l i b))
  flat-set_more [] i a b y e more = absurd (some-ne-none a (sym e))
  flat-set_more (x ∷ xs) zero a b y e more =
      let rest = flat_map f xs in
      let is : (f x ++ y ∷ []) ++ rest ≡ f b ++ rest = ap (λ z. (f z ++ y ∷ []) ++ rest) (some-injective x a e) ∙ ap (λ z. z ++ rest) (sym more) in
      subst₂ IsPermutation (sym (append_assoc (f x) rest (y ∷ []))) (sym (append_assoc (f x) (y ∷ []) rest) ∙ is)
      (IsPermutation-append_right (f x) (rest ++ y ∷ []) (y ∷ [] ++ rest) (IsPermutation-append_comm rest (y ∷ [])))
  flat-set_more (x ∷ xs) (suc i) a b y e more =
      subst (λ l. IsPermutation l (f x ++ flat_map f (set xs i b))) (sym (append_assoc (f x) (flat_map f xs) (y ∷ [])))
      (IsPermutation-append_right (f x) (flat_map f xs ++ y ∷ []) (flat_map f (set xs i b)) (flat-set_more xs i a b y e more))

  -- what one item holds may stand in front, where an empty one takes its place
  pub in_front : (l : List A) (i : ℕ) (a none : A) → get_elem? l i ≡ some a → f none ≡ [] → IsPermutation (flat_map f l) (f a ++ flat_map f (set l i none))
  in_front [] i a none e empty = absurd (some-ne-none a (sym e))
  in_front (x ∷ xs) zero a none e empty =
      subst (IsPermutation (f x ++ flat_map f xs)) (ap₂ (λ y z. f y ++ (z ++ flat_map f xs)) (some-injective x a e) (sym empty)) (IsPermutation-refl (f x ++ flat_map f xs))
  in_front (x ∷ xs) (suc i) a none e empty =
      let rest = flat_map f (set xs i none) in
      IsPermutation-trans (f x ++ flat_map f xs) (f x ++ (f a ++ rest)) (f a ++ (f x ++ rest))
      (IsPermutation-append_right (f x) (flat_map f xs) (f a ++ rest) (in_front xs i a none e empty)) (swapped (f x) (f a) rest)

  -- one item takes in what another holds, and the other is left empty
  pub flat-set_both : (l : List A) (i j : ℕ) (a b both none : A) → get_elem? l i ≡ some a → j ≢ i → get_elem? l j ≡ some b → f both ≡ f a ++ f b → f none ≡ []
      → IsPermutation (flat_map f l) (flat_map f (set (set l i both) j none))
  flat-set_both l i j a b both none at apart at' is empty =
      let gone = set l i none in
      let rest = flat_map f (set gone j none) in
      let new = set (set l i both) j none in
      let left : IsPermutation (flat_map f l) (f a ++ (f b ++ rest)) =
      IsPermutation-trans (flat_map f l) (f a ++ flat_map f gone) (f a ++ (f b ++ rest)) (in_front l i a none at empty)
      (IsPermutation-append_right (f a) (flat_map f gone) (f b ++ rest) (in_front gone j b none (set_else l i j none apart ∙ at') empty)) in
      let here : get_elem? new i ≡ some both = set_else (set l i both) j i none (λ e. apart (sym e)) ∙ there l i a both at in
      let same : set new i none ≡ set gone j none = set_comm (set l i both) j i none none apart ∙ ap (λ m. set m j none) (set-set l i both none) in
      let right : IsPermutation (flat_map f new) (f a ++ (f b ++ rest)) =
      subst (IsPermutation (flat_map f new)) (ap₂ (λ m n. m ++ flat_map f n) is same ∙ append_assoc (f a) (f b) rest) (in_front new i both none here empty) in
      IsPermutation-trans (flat_map f l) (f a ++ (f b ++ rest)) (flat_map f new) left (IsPermutation-sym (flat_map f new) (f a ++ (f b ++ rest)) right)

  module _ (p : A → Bool) (others : (x : A) → p x ≡ false → f x ≡ []) where
    flat_none : (l : List A) → count_by p l ≡ 0 → flat_map f l ≡ []
    flat_none [] none = refl
    flat_none (x ∷ xs) none = by (p x) refl (flat_none xs (omega (arith, sum_by-cons (λ y. bit (p y)) x xs, none)))
      where
        by : (b : Bool) → p x ≡ b → flat_map f xs ≡ [] → f x ++ flat_map f xs ≡ []
        by true e rest = let one : bit (p x) ≡ 1 = ap bit e in absurd (omega (arith, sum_by-cons (λ y. bit (p y)) x xs, one, none))
        by false e rest = ap₂ (λ y z. y ++ z) (others x e) rest

    -- where one item passes, what it holds is all
    pub flat_alone : (l : List A) (i : ℕ) (a : A) → count_by p l ≡ 1 → get_elem? l i ≡ some a → p a ≡ true → flat_map f l ≡ f a
    flat_alone [] i a one e passes = absurd (some-ne-none a (sym e))
    flat_alone (x ∷ xs) zero a one e passes =
        let here : bit (p x) ≡ 1 = ap (λ y. bit (p y)) (some-injective x a e) ∙ ap bit passes in
        ap₂ (λ y z. f y ++ z) (some-injective x a e) (flat_none xs (omega (arith, sum_by-cons (λ y. bit (p y)) x xs, here, one))) ∙ append-nil (f a)
    flat_alone (x ∷ xs) (suc i) a one e passes = by (p x) refl (λ rest. flat_alone xs i a rest e passes)
      where
        by : (b : Bool) → p x ≡ b → (count_by p xs ≡ 1 → flat_map f xs ≡ f a) → f x ++ flat_map f xs ≡ f a
        by true h rest = let here : bit (p x) ≡ 1 = ap bit h in absurd (omega (arith, sum_by-cons (λ y. bit (p y)) x xs, here, one, some_counts p xs i a e passes))
        by false h rest = let none : bit (p x) ≡ 0 = ap bit h in ap₂ (λ y z. y ++ z) (others x h) (rest (omega (arith, sum_by-cons (λ y. bit (p y)) x xs, none, one)))
