-- The first item of a list that passes a test, by its place.
use Rattle.std.proofs.Common.{◌≡◌, ℕ, suc, ◌+◌, ◌<◌, Bool, true, false, not, cond, List, [], ◌∷◌, length, refl, ap, subst, ltb, ltb-true, ltb-false, ◌≤◌, arith, one-add}
use Rattle.std.specs.Prelude.{Some, None, position, find, remove, slice_get}
use Rattle.std.specs.List.{position_or_len}
use Rattle.cache_core.specs.Holds.{without_first}

module _ {X : Type 0} (p : X → Bool) where
  -- where the item stands, and what is left without it
  pub record IsPlace (xs : List X) (i : ℕ) : Type 0 where
    pub within : i < length xs
    pub found : find p xs ≡ slice_get xs i
    pub rest : without_first p xs ≡ remove xs i

  without_first-at : (xs : List X) → position_or_len p xs < length xs → without_first p xs ≡ remove xs (position_or_len p xs)
  without_first-at [] h = absurd (omega arith)
  without_first-at (x ∷ xs) h = by (p x) h (without_first-at xs)
    where
      by : (b : Bool) → cond (not b) (1 + position_or_len p xs) 0 < suc (length xs)
          → (position_or_len p xs < length xs → without_first p xs ≡ remove xs (position_or_len p xs))
          → cond b xs (x ∷ without_first p xs) ≡ remove (x ∷ xs) (cond (not b) (1 + position_or_len p xs) 0)
      by true within rest = refl
      by false within rest = rw one-add (ap (λ l. x ∷ l) (rest (omega arith)))

  find-at : (xs : List X) → position_or_len p xs < length xs → find p xs ≡ slice_get xs (position_or_len p xs)
  find-at [] h = absurd (omega arith)
  find-at (x ∷ xs) h = by (p x) h (find-at xs)
    where
      by : (b : Bool) → cond (not b) (1 + position_or_len p xs) 0 < suc (length xs)
          → (position_or_len p xs < length xs → find p xs ≡ slice_get xs (position_or_len p xs))
          → cond b (Some x) (find p xs) ≡ slice_get (x ∷ xs) (cond (not b) (1 + position_or_len p xs) 0)
      by true within rest = refl
      by false within rest = rw one-add (rest (omega arith))

  none_from : (xs : List X) → length xs ≤ position_or_len p xs → (find p xs ≡ None) × (without_first p xs ≡ xs)
  none_from [] h = (refl, refl)
  none_from (x ∷ xs) h = by (p x) h (none_from xs)
    where
      by : (b : Bool) → suc (length xs) ≤ cond (not b) (1 + position_or_len p xs) 0
          → (length xs ≤ position_or_len p xs → (find p xs ≡ None) × (without_first p xs ≡ xs))
          → (cond b (Some x) (find p xs) ≡ None) × (cond b xs (x ∷ without_first p xs) ≡ x ∷ xs)
      by true past rest = absurd (omega arith)
      by false past rest = let none = rest (omega arith) in (none.0, ap (λ l. x ∷ l) none.1)

  -- what `position` finds
  pub place_from_position : (xs : List X) (i : ℕ) → position p xs ≡ Some i → IsPlace xs i
  place_from_position xs i e = by (ltb (position_or_len p xs) (length xs)) refl e
    where
      by : (b : Bool) → ltb (position_or_len p xs) (length xs) ≡ b → cond b (Some (position_or_len p xs)) None ≡ Some i → IsPlace xs i
      by true lt e =
          let within : position_or_len p xs < length xs = ltb-true _ _ lt in
          let same : position_or_len p xs ≡ i = cc in
          subst (IsPlace xs) same (record { within = within; found = find-at xs within; rest = without_first-at xs within })
      by false lt e = absurd (cc)

  pub none_from_position : (xs : List X) → position p xs ≡ None → (find p xs ≡ None) × (without_first p xs ≡ xs)
  none_from_position xs e = by (ltb (position_or_len p xs) (length xs)) refl e
    where
      by : (b : Bool) → ltb (position_or_len p xs) (length xs) ≡ b → cond b (Some (position_or_len p xs)) None ≡ None → (find p xs ≡ None) × (without_first p xs ≡ xs)
      by true lt e = absurd (cc)
      by false lt e = none_from xs (ltb-false _ _ lt)
