-- Names without repeats.
use Rattle.std.proofs.Common.{◌≡◌, ℕ, ◌+◌, Bool, true, false, not, cond, ◌&&◌, ◌||◌, List, [], ◌∷◌, ◌++◌, length, refl, ap, ap₂, ◌∙◌, nat_eq, eqb-true, eq-eqb, arith}
use Rattle.std.specs.Cmp.{IsEquivalence}
use Rattle.std.specs.List.{AllByRecursion, IsDistinct, list_any}
use Rattle.std.specs.Set.{unique_keys, distinct_count}
use Rattle.std.proofs.lemmas.Bool.{and_parts, and_from}
use Rattle.std.proofs.lemmas.List.Folds.{list_any-append}
use Rattle.std.proofs.lemmas.Map.Made.{length-from_keys}
use Rattle.cache_core.proofs.Names.{nat_eq-sym}
use Rattle.turn_lock.proofs.Lists.{bit}
use Rattle.cache_laws.specs.Computations.{same_name, DistinctNamesAreCounted}

pub same_name-sym : (a b : ℕ × ℕ) → same_name a b ≡ same_name b a
same_name-sym a b = ap₂ (λ x y. x && y) (nat_eq-sym a.0 b.0) (nat_eq-sym a.1 b.1)

-- names that are the same are found in the same lists
same_found : (a b : ℕ × ℕ) (names : List (ℕ × ℕ)) → same_name a b ≡ true → list_any (same_name a) names ≡ list_any (same_name b) names
same_found a b names same =
    let parts = and_parts (nat_eq a.0 b.0) (nat_eq a.1 b.1) same in
    ap₂ (λ c k. list_any (λ n. nat_eq c n.0 && nat_eq k n.1) names) (eqb-true a.0 b.0 parts.0) (eqb-true a.1 b.1 parts.1)

-- a name more at the end
pub any-push : {X : Type 0} (p : X → Bool) (xs : List X) (x : X) → list_any p (xs ++ x ∷ []) ≡ (list_any p xs || p x)
any-push p xs x = list_any-append p xs (x ∷ []) ∙ ap (λ b. list_any p xs || b) (by (p x))
  where
    by : (b : Bool) → (b || false) ≡ b
    by true = refl
    by false = refl

pub distinct-push : (names : List (ℕ × ℕ)) (name : ℕ × ℕ)
    → distinct_count same_name (names ++ name ∷ []) ≡ distinct_count same_name names + bit (not (list_any (same_name name) names))
distinct-push [] name = refl
distinct-push (n ∷ ns) name =
    by (list_any (same_name n) (ns ++ name ∷ [])) (list_any (same_name n) ns) (list_any (same_name name) ns) (same_name n name) (same_name name n)
    (any-push (same_name n) ns name) (same_found n name ns) (same_name-sym name n) (distinct-push ns name)
  where
    by : (l a b s t : Bool) → l ≡ (a || s) → (s ≡ true → a ≡ b) → t ≡ s
        → length (unique_keys same_name (ns ++ name ∷ [])) ≡ length (unique_keys same_name ns) + bit (not b)
        → length (cond l (unique_keys same_name (ns ++ name ∷ [])) (n ∷ unique_keys same_name (ns ++ name ∷ []))) ≡ length (cond a (unique_keys same_name ns) (n ∷ unique_keys same_name ns)) + bit (not (t || b))
    by true true true true true la same ts h = omega arith
    by true true true false false la same ts h = omega arith
    by true true false true true la same ts h = absurd (let no : true ≡ false = same refl in cc)
    by true true false false false la same ts h = omega arith
    by true false true true true la same ts h = absurd (let no : false ≡ true = same refl in cc)
    by true false false true true la same ts h = omega arith
    by false false true false false la same ts h = omega arith
    by false false false false false la same ts h = omega arith
    by false true b s t la same ts h = absurd (cc)
    by false false b true t la same ts h = absurd (cc)
    by true false b false t la same ts h = absurd (cc)
    by true true b true false la same ts h = absurd (cc)
    by true true b false true la same ts h = absurd (cc)
    by true false b true false la same ts h = absurd (cc)
    by false false b false true la same ts h = absurd (cc)

-- a list in which nothing passes
all_fail : {X : Type 0} (p : X → Bool) (xs : List X) → list_any p xs ≡ false → AllByRecursion (λ x. p x ≡ false) xs
all_fail p [] e = tt
all_fail p (x ∷ xs) e = by (p x) refl e (all_fail p xs)
  where
    by : (b : Bool) → p x ≡ b → (b || list_any p xs) ≡ false → (list_any p xs ≡ false → AllByRecursion (λ x. p x ≡ false) xs) → AllByRecursion (λ x. p x ≡ false) (x ∷ xs)
    by true h e rest = absurd (cc)
    by false h e rest = (h, rest e)

same_members : (names : List (ℕ × ℕ)) (name : ℕ × ℕ) → list_any (same_name name) (unique_keys same_name names) ≡ list_any (same_name name) names
same_members [] name = refl
same_members (n ∷ ns) name = by (list_any (same_name n) ns) refl (same_members ns name)
  where
    known : (b : Bool) → same_name name n ≡ b → list_any (same_name n) ns ≡ true → list_any (same_name name) ns ≡ (b || list_any (same_name name) ns)
    known true same has = same_found name n ns same ∙ has
    known false other has = refl

    by : (b : Bool) → list_any (same_name n) ns ≡ b → list_any (same_name name) (unique_keys same_name ns) ≡ list_any (same_name name) ns
        → list_any (same_name name) (cond b (unique_keys same_name ns) (n ∷ unique_keys same_name ns)) ≡ (same_name name n || list_any (same_name name) ns)
    by true has rest = rest ∙ known (same_name name n) refl has
    by false has rest = ap (λ b. same_name name n || b) rest

distinct : (names : List (ℕ × ℕ)) → IsDistinct same_name (unique_keys same_name names)
unfolding IsDistinct
distinct [] = tt
distinct (n ∷ ns) = by (list_any (same_name n) ns) refl (distinct ns)
  where
    by : (b : Bool) → list_any (same_name n) ns ≡ b → IsDistinct same_name (unique_keys same_name ns) → IsDistinct same_name (cond b (unique_keys same_name ns) (n ∷ unique_keys same_name ns))
    by true has rest = rest
    by false has rest = (all_fail (same_name n) (unique_keys same_name ns) (same_members ns n ∙ has), rest)

same_equiv : IsEquivalence same_name
same_equiv = record { refl = λ a. and_from (nat_eq a.0 a.0) (nat_eq a.1 a.1) (eq-eqb a.0 a.0 refl) (eq-eqb a.1 a.1 refl); symm = same_name-sym; congr = congr }
  where
    congr : (a b c : ℕ × ℕ) → same_name a b ≡ true → same_name a c ≡ same_name b c
    congr a b c same =
        let parts = and_parts (nat_eq a.0 b.0) (nat_eq a.1 b.1) same in
        ap₂ (λ x y. nat_eq x c.0 && nat_eq y c.1) (eqb-true a.0 b.0 parts.0) (eqb-true a.1 b.1 parts.1)

pub distinct_names_are_counted : DistinctNamesAreCounted
distinct_names_are_counted names = record {
  some = (unique_keys same_name names, record { distinct = distinct names; same_members = same_members names });
  each = λ others has. length-from_keys same_equiv others names has.distinct has.same_members;
}
