-- The rows of a class and key after a Start or a Hit, and the rows that evictions leave.
use Rattle.std.proofs.Common.{◌≡◌, ℕ, Bool, true, false, cond, ◌||◌, List, [], ◌∷◌, ◌++◌, refl, ap, ◌∙◌, nat_eq, eq-eqb}
use Rattle.std.specs.Prelude.{Option, Some, None, Result, Ok, Err, OnOk, find, map, option_map, position, remove, slice_get}
use Rattle.std.specs.List.{list_any}
use Rattle.cache_core.specs.Rows.{state_of, is_named, row_in, is_running, is_held_by, held_by, without}
use Rattle.cache_core.specs.Core.{is_in}
use Rattle.cache_core.specs.declared.entry.Entry.{Entry}
use Rattle.cache_core.specs.declared.row.Row.{Row}
use Rattle.cache_core.specs.declared.row.State.{State}
use Rattle.cache_core.specs.declared.row.State.TheVariants.{Running, Live}
use Rattle.cache_core.proofs.Names.{is_named-own, find-without_own, find-cons_none}
use Rattle.cache_core.proofs.Distinct.{legal_rows_are_distinct}
use Rattle.cache_table.specs.Kept.{Kept, is_kept, kept_running, without_kept, rows_left, changed_at, moved_last, with_state}
use Rattle.cache_table.specs.Cache.{Cache, core_of, is_any_live, IsKept}
use Rattle.cache_table.proofs.Slotted.{map-append}
use Rattle.cache_table.proofs.Keeping.{IsAt, rows-removed, touched_last, row_in_at, item_from}
use Rattle.cache_table.proofs.Acting.{state_absent}

-- what is not found before is found at the end
find-push : {X : Type 0} (p : X → Bool) (xs : List X) (x : X) → find p xs ≡ None → p x ≡ true → find p (xs ++ x ∷ []) ≡ Some x
find-push p [] x none hit = ap (λ b. cond b (Some x) None) hit
find-push p (y ∷ xs) x none hit =
    let parts = find-cons_none p y xs none in
    ap (λ b. cond b (Some y) (find p (xs ++ x ∷ []))) parts.0 ∙ find-push p xs x parts.1 hit

-- the state of a row that stands last, of whose class and key there is none before
state_last : (class key : ℕ) (rows : List Row) (state : State) → find (is_named class key) rows ≡ None → state_of class key (rows ++ row_in class key state ∷ []) ≡ Some state
state_last class key rows state none = ap (option_map (λ row. row.state)) (find-push (is_named class key) rows (row_in class key state) none (is_named-own class key state))

any-last : (pass : ℕ) (holders : List ℕ) → list_any (nat_eq pass) (holders ++ pass ∷ []) ≡ true
any-last pass [] = ap (λ b. b || false) (eq-eqb pass pass refl)
any-last pass (x ∷ holders) = by (nat_eq pass x) (any-last pass holders)
  where
    by : (b : Bool) → list_any (nat_eq pass) (holders ++ pass ∷ []) ≡ true → (b || list_any (nat_eq pass) (holders ++ pass ∷ [])) ≡ true
    by true rest = refl
    by false rest = rest

held-more : (pass : ℕ) (state : State) → is_any_live state ≡ true → is_held_by pass (held_by pass state) ≡ true
held-more pass (Running owner) live = absurd (cc)
held-more pass (Live serial size holders) live = any-last pass holders

module _ {V : Type 0} where
  -- a pass that started owns the row
  pub owned-after_start : {T E : Type 0} (r : Result T E) (rows new : List (Kept V)) (pass class key : ℕ) → position (is_kept class key) rows ≡ None
      → OnOk r (new ≡ rows ++ kept_running pass class key ∷ []) → OnOk r (is_in (is_running pass) (state_of class key (map (λ kept. kept.row) new)) ≡ true)
  owned-after_start (Err e) rows new pass class key absent made = tt
  owned-after_start (Ok x) rows new pass class key absent made =
      let plain = map (λ (kept : Kept V). kept.row) rows in
      ap (λ l. is_in (is_running pass) (state_of class key (map (λ kept. kept.row) l))) made
      ∙ ap (λ l. is_in (is_running pass) (state_of class key l)) (map-append (λ (kept : Kept V). kept.row) rows (kept_running pass class key ∷ []))
      ∙ ap (is_in (is_running pass)) (state_last class key plain (Running pass) (by (find (is_named class key) plain) (state_absent class key rows absent)))
      ∙ eq-eqb pass pass refl
    where
      by : (o : Option Row) → option_map (λ row. row.state) o ≡ None → o ≡ None
      by None e = refl
      by (Some row) e = absurd (cc)

  -- a pass that took a value holds it
  pub held-after_take : {T E : Type 0} (r : Result T E) (old : Cache V) (new : List (Kept V)) (pass class key i : ℕ) → IsKept old → position (is_kept class key) old.rows ≡ Some i
      → option_map (λ kept. is_any_live kept.row.state) (slice_get old.rows i) ≡ Some true
      → OnOk r (new ≡ moved_last i (changed_at (with_state (held_by pass)) i old.rows)) → OnOk r (is_in (is_held_by pass) (state_of class key (map (λ kept. kept.row) new)) ≡ true)
  held-after_take (Err e) old new pass class key i kept place live made = tt
  held-after_take (Ok x) old new pass class key i kept place live made =
      let item = item_from (λ (kept : Kept V). is_any_live kept.row.state) old.rows i true live in
      let k = item.0 in
      let at : IsAt class key old.rows i k = record { place = place; item = item.1 } in
      let plain = (core_of old).rows in
      let distinct = legal_rows_are_distinct old.budget old.history (core_of old) kept.legal in
      let changed = with_state (held_by pass) k in
      let is : changed.row ≡ row_in class key (held_by pass k.row.state) = row_in_at class key old.rows i k (held_by pass k.row.state) at in
      ap (λ l. is_in (is_held_by pass) (state_of class key (map (λ kept. kept.row) l))) (made ∙ touched_last (with_state (held_by pass)) old.rows i k item.1)
      ∙ ap (λ l. is_in (is_held_by pass) (state_of class key l)) (map-append (λ (kept : Kept V). kept.row) (remove old.rows i) (changed ∷ []))
      ∙ ap (λ l. is_in (is_held_by pass) (state_of class key (l ++ changed.row ∷ []))) (rows-removed class key old.rows i k at)
      ∙ ap (λ row. is_in (is_held_by pass) (state_of class key (without class key plain ++ row ∷ []))) is
      ∙ ap (is_in (is_held_by pass)) (state_last class key (without class key plain) (held_by pass k.row.state) (find-without_own class key plain distinct))
      ∙ held-more pass k.row.state item.2

  -- the rows that evictions leave, and one more
  pub left-more : (evicts : List Entry) (entry : Entry) (rows : List (Kept V)) → rows_left (evicts ++ entry ∷ []) rows ≡ without_kept entry.class entry.key (rows_left evicts rows)
  left-more [] entry rows = refl
  left-more (e ∷ evicts) entry rows = left-more evicts entry (without_kept e.class e.key rows)
