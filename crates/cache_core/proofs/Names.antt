-- Rows of distinct class and key.
use Rattle.std.proofs.Common.{◌≡◌, ℕ, Bool, true, false, cond, ◌&&◌, List, [], ◌∷◌, ◌++◌, refl, sym, ap, ap₂, ◌∙◌, subst₂, nat_eq, eqb-true, eq-eqb, ne_eqb, inl, inr}
use Rattle.std.specs.Prelude.{Option, Some, None, find, option_map}
use Rattle.std.proofs.lemmas.Bool.{and_parts, cases_eq}
use Rattle.std.specs.Option.{option_map_or}
use Rattle.cache_core.specs.Holds.{without_first}
use Rattle.cache_core.specs.Rows.{is_named, state_of, without, row_in, touched, AreDistinct}
use Rattle.cache_core.specs.declared.row.Row.{Row}
use Rattle.cache_core.specs.declared.row.State.{State}

pub nat_eq-sym : (a b : ℕ) → nat_eq a b ≡ nat_eq b a
nat_eq-sym a b = elim (cases_eq a b) [
  | inl same ↦ ap₂ nat_eq same (sym same)
  | inr differs ↦ ne_eqb a b differs ∙ sym (ne_eqb b a (λ e. differs (sym e)))
]

pub is_named-sym : (a b : Row) → is_named a.class a.key b ≡ is_named b.class b.key a
is_named-sym a b = ap₂ (λ x y. x && y) (nat_eq-sym b.class a.class) (nat_eq-sym b.key a.key)

-- a row passes the test of its own class and key
pub is_named-own : (class key : ℕ) (state : State) → is_named class key (row_in class key state) ≡ true
is_named-own class key state = ap₂ (λ x y. x && y) (eq-eqb class class refl) (eq-eqb key key refl)

-- there is no row where there is no state
pub find_none : (class key : ℕ) (rows : List Row) → state_of class key rows ≡ None → find (is_named class key) rows ≡ None
find_none class key rows e = by (find (is_named class key) rows) e
  where
    by : (o : Option Row) → option_map (λ row. row.state) o ≡ None → o ≡ None
    by None e = refl
    by (Some row) e = absurd (cc)

pub state_none : (class key : ℕ) (rows : List Row) → find (is_named class key) rows ≡ None → state_of class key rows ≡ None
state_none class key rows e = ap (option_map (λ row. row.state)) e

-- nothing is found in a list only where its head fails the test, and nothing is found in its tail
pub find-cons_none : {X : Type 0} (p : X → Bool) (x : X) (xs : List X) → find p (x ∷ xs) ≡ None → (p x ≡ false) × (find p xs ≡ None)
find-cons_none p x xs e = by (p x) e
  where
    by : (a : Bool) → cond a (Some x) (find p xs) ≡ None → (a ≡ false) × (find p xs ≡ None)
    by true e = absurd (cc)
    by false e = (refl, e)

find-cons_miss : {X : Type 0} (p : X → Bool) (x : X) (xs : List X) → p x ≡ false → find p xs ≡ None → find p (x ∷ xs) ≡ None
find-cons_miss p x xs miss e = ap (λ b. cond b (Some x) (find p xs)) miss ∙ e

-- what is not found is not found in fewer items
pub find-without_none : {X : Type 0} (p q : X → Bool) (xs : List X) → find p xs ≡ None → find p (without_first q xs) ≡ None
find-without_none p q [] e = refl
find-without_none p q (x ∷ xs) e =
    let parts = find-cons_none p x xs e in
    by (q x) parts.0 parts.1 (find-without_none p q xs parts.1)
  where
    by : (b : Bool) → p x ≡ false → find p xs ≡ None → find p (without_first q xs) ≡ None → find p (cond b xs (x ∷ without_first q xs)) ≡ None
    by true miss none rest = none
    by false miss none rest = find-cons_miss p x (without_first q xs) miss rest

-- nor in more, where the last fails the test
pub find-push_none : {X : Type 0} (p : X → Bool) (xs : List X) (x : X) → find p xs ≡ None → p x ≡ false → find p (xs ++ x ∷ []) ≡ None
find-push_none p [] x e miss = find-cons_miss p x [] miss refl
find-push_none p (y ∷ xs) x e miss =
    let parts = find-cons_none p y xs e in
    find-cons_miss p y (xs ++ x ∷ []) parts.0 (find-push_none p xs x parts.1 miss)

-- of distinct rows, that of a class and key is gone once it is taken out
pub find-without_own : (class key : ℕ) (rows : List Row) → AreDistinct rows → find (is_named class key) (without class key rows) ≡ None
find-without_own class key [] d = refl
find-without_own class key (row ∷ rows) d = by (is_named class key row) refl (find-without_own class key rows d.1)
  where
    by : (b : Bool) → is_named class key row ≡ b → find (is_named class key) (without class key rows) ≡ None
        → find (is_named class key) (cond b rows (row ∷ without class key rows)) ≡ None
    by true named rest =
        let parts = and_parts (nat_eq row.class class) (nat_eq row.key key) named in
        let none = find_none row.class row.key rows d.0 in
        subst₂ (λ a b. find (is_named a b) rows ≡ None) (eqb-true row.class class parts.0) (eqb-true row.key key parts.1) none
    by false named rest = find-cons_miss (is_named class key) row (without class key rows) named rest

pub distinct-without : (class key : ℕ) (rows : List Row) → AreDistinct rows → AreDistinct (without class key rows)
distinct-without class key [] d = d
distinct-without class key (row ∷ rows) d = by (is_named class key row) (distinct-without class key rows d.1)
  where
    by : (b : Bool) → AreDistinct (without class key rows) → AreDistinct (cond b rows (row ∷ without class key rows))
    by true rest = d.1
    by false rest = (
      state_none row.class row.key (without class key rows)
          (find-without_none (is_named row.class row.key) (is_named class key) rows (find_none row.class row.key rows d.0)),
      rest,
    )

pub distinct-push : (rows : List Row) (class key : ℕ) (state : State) → AreDistinct rows → find (is_named class key) rows ≡ None → AreDistinct (rows ++ row_in class key state ∷ [])
distinct-push [] class key state d none = (refl, tt)
distinct-push (row ∷ rows) class key state d none =
    let parts = find-cons_none (is_named class key) row rows none in
    let miss : is_named row.class row.key (row_in class key state) ≡ false = is_named-sym row (row_in class key state) ∙ parts.0 in (
      state_none row.class row.key (rows ++ row_in class key state ∷ [])
          (find-push_none (is_named row.class row.key) rows (row_in class key state) (find_none row.class row.key rows d.0) miss),
      distinct-push rows class key state d.1 parts.1,
    )

pub distinct-touched : (class key : ℕ) (change : State → State) (rows : List Row) → AreDistinct rows → AreDistinct (touched class key change rows)
distinct-touched class key change rows d = by (state_of class key rows)
  where
    by : (o : Option State) → AreDistinct (option_map_or (λ state. without class key rows ++ row_in class key (change state) ∷ []) o rows)
    by None = d
    by (Some state) = distinct-push (without class key rows) class key (change state) (distinct-without class key rows d) (find-without_own class key rows d)
