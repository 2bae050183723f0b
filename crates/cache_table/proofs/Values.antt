-- Where values come from.
use Rattle.std.proofs.Common.{◌≡◌, ◌⊎◌, ℕ, zero, suc, List, [], ◌∷◌, ◌++◌, refl, sym, ap, ◌∙◌, subst, inl, inr}
use Rattle.std.specs.Prelude.{Option, Some, None, remove, slice_get, slice_set}
use Rattle.std.specs.Option.{option_map_or}
use Rattle.cache_core.specs.Rows.{held_by, released_by}
use Rattle.cache_core.specs.declared.row.State.{State}
use Rattle.cache_core.specs.declared.row.State.TheVariants.{Running, Live}
use Rattle.cache_table.specs.Kept.{Kept, serial_value, IsWith, HasValue, changed_at, moved_last, with_state}
use Rattle.cache_table.proofs.Keeping.{touched_last}

module _ {V : Type 0} (c k s : ℕ) (v : V) where
  pub has-remove : (rows : List (Kept V)) (i : ℕ) → HasValue c k s v (remove rows i) → HasValue c k s v rows
  has-remove [] zero h = h
  has-remove [] (suc i) h = h
  has-remove (x ∷ rows) zero h = inr h
  has-remove (x ∷ rows) (suc i) h = elim h [ inl here ↦ inl here | inr there ↦ inr (has-remove rows i there) ]

  pub has-last : (rows : List (Kept V)) (x : Kept V) → HasValue c k s v (rows ++ x ∷ []) → HasValue c k s v rows ⊎ IsWith c k s v x
  has-last [] x h = elim h [ inl here ↦ inr here | inr there ↦ inl there ]
  has-last (y ∷ rows) x h = elim h [
    | inl here ↦ inl (inl here)
    | inr there ↦ elim (has-last rows x there) [ inl before ↦ inl (inr before) | inr last ↦ inr last ]
  ]

  pub has-at : (rows : List (Kept V)) (i : ℕ) (x : Kept V) → slice_get rows i ≡ Some x → IsWith c k s v x → HasValue c k s v rows
  has-at [] i x at is = absurd (cc)
  has-at (y ∷ rows) zero x at is = let same : y ≡ x = cc in inl (subst (IsWith c k s v) (sym same) is)
  has-at (y ∷ rows) (suc i) x at is = inr (has-at rows i x at is)

  -- after a row was changed and went last, a value is an old one or that of the changed row
  pub has-touched : (change : Kept V → Kept V) (rows new : List (Kept V)) (i : ℕ) → new ≡ moved_last i (changed_at change i rows) → HasValue c k s v new
      → HasValue c k s v rows ⊎ ((x : Kept V) × (slice_get rows i ≡ Some x) × IsWith c k s v (change x))
  has-touched change rows new i made h = by (slice_get rows i) refl
    where
      by : (o : Option (Kept V)) → slice_get rows i ≡ o → HasValue c k s v rows ⊎ ((x : Kept V) × (slice_get rows i ≡ Some x) × IsWith c k s v (change x))
      by None at =
          let written : changed_at change i rows ≡ rows = ap (λ o. option_map_or (λ l. slice_set rows i (change l)) o rows) at in
          let same : new ≡ rows = made ∙ ap (moved_last i) written ∙ ap (λ o. option_map_or (λ l. remove rows i ++ l ∷ []) o rows) at in
          inl (subst (HasValue c k s v) same h)
      by (Some x) at =
          elim (has-last (remove rows i) (change x) (subst (HasValue c k s v) (made ∙ touched_last change rows i x at) h)) [
            | inl before ↦ inl (has-remove rows i before)
            | inr last ↦ inr (x, at, last)
          ]

  -- a hold more or less leaves the value
  held_with : (pass : ℕ) (x : Kept V) → IsWith c k s v (with_state (held_by pass) x) → IsWith c k s v x
  held_with pass x is = (is.0, is.1, by x.row.state is.2)
    where
      by : (state : State) → serial_value (held_by pass state) x.value ≡ Some (s, v) → serial_value state x.value ≡ Some (s, v)
      by (Running owner) e = e
      by (Live serial size holders) e = e

  released_with : (pass : ℕ) (x : Kept V) → IsWith c k s v (with_state (released_by pass) x) → IsWith c k s v x
  released_with pass x is = (is.0, is.1, by x.row.state is.2)
    where
      by : (state : State) → serial_value (released_by pass state) x.value ≡ Some (s, v) → serial_value state x.value ≡ Some (s, v)
      by (Running owner) e = e
      by (Live serial size holders) e = e

  pub has-held : (pass : ℕ) (rows new : List (Kept V)) (i : ℕ) → new ≡ moved_last i (changed_at (with_state (held_by pass)) i rows) → HasValue c k s v new → HasValue c k s v rows
  has-held pass rows new i made h = elim (has-touched (with_state (held_by pass)) rows new i made h) [ inl old ↦ old | inr x ↦ has-at rows i x.0 x.1 (held_with pass x.0 x.2) ]

  pub has-released : (pass : ℕ) (rows new : List (Kept V)) (i : ℕ) → new ≡ moved_last i (changed_at (with_state (released_by pass)) i rows) → HasValue c k s v new → HasValue c k s v rows
  has-released pass rows new i made h = elim (has-touched (with_state (released_by pass)) rows new i made h) [ inl old ↦ old | inr x ↦ has-at rows i x.0 x.1 (released_with pass x.0 x.2) ]
