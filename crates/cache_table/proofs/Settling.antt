-- Acts that leave a settled core settled, and the rows of a class and key as a look finds them.
use Rattle.std.proofs.Common.{◌≡◌, ◌⊎◌, ℕ, ◌<◌, Bool, true, false, List, [], ◌∷◌, ◌++◌, length, refl, sym, ap, ap₂, ◌∙◌, subst, inl, inr, arith, length-append, ne_eqb, true≢false}
use Rattle.std.specs.Prelude.{Option, Some, None, is_none, map, position, remove, slice_get, option_map, option_and_then, nat_le, Result, Ok, Err, OnOk, OnErr, IfOk, IfNone, OnSome}
use Rattle.std.proofs.lemmas.Bool.{or_cases, or_left, or_right, or_from, lt-leb}
use Rattle.std.proofs.lemmas.List.Sums.{sum_by-cons}
use Rattle.cache_core.specs.Rows.{state_of, is_named, row_in, is_running, is_idle, held_by, size_of, first_idle, live_bytes}
use Rattle.cache_core.specs.Core.{is_settled, is_in, IsSettled}
use Rattle.cache_core.specs.declared.row.Row.{Row}
use Rattle.cache_core.specs.declared.row.State.{State}
use Rattle.cache_core.specs.declared.row.State.TheVariants.{Running, Live}
use Rattle.cache_core.proofs.Names.{find-push_none, find-without_none}
use Rattle.cache_core.proofs.Firsts.{place_from_position, none_from_position}
use Rattle.cache_table.specs.Kept.{Kept, is_kept, is_kept_idle, changed_at, moved_last, with_state, with_value, serial_value, IsWith, HasValue}
use Rattle.cache_table.specs.Cache.{Cache, core_of, is_any_live, IsSame, Adds, HasNoNewValue}
use Rattle.cache_core.specs.declared.entry.Entry.{Entry}
use Rattle.cache_table.proofs.Values.{has-last, has-held, has-at, has-touched}
use Rattle.cache_table.specs.Ledger.{sizes}
use Rattle.cache_table.proofs.Slotted.{position-map, map-append, some_at, some_from}
use Rattle.cache_table.proofs.Keeping.{IsAt, state_found, rows-removed, touched_last, item_from, same_item, named_at, sum-last, sum-touched, sum-removed, running_is, held_is, idle_place}
use Rattle.cache_table.proofs.Acting.{state_absent}

-- what follows of an answer
pub on_ok_map : {T E A B : Type 0} (r : Result T E) → OnOk r A → (A → B) → OnOk r B
on_ok_map (Ok x) a f = f a
on_ok_map (Err e) a f = tt

module _ {V : Type 0} where
  -- the live bytes of the core's rows
  pub live_bytes-plain : (rows : List (Kept V)) → live_bytes (map (λ kept. kept.row) rows) ≡ sizes rows
  live_bytes-plain [] = refl
  live_bytes-plain (x ∷ rows) = omega (
    arith,
    live_bytes-plain rows,
    sum_by-cons (λ (row : Row). size_of row.state) x.row (map (λ kept. kept.row) rows),
    sum_by-cons (λ (kept : Kept V). size_of kept.row.state) x rows,
  )

-- fewer live bytes, and no idle row where there was none
pub settled_from : (budget : ℕ) (rows new : List Row) → is_settled budget rows ≡ true → live_bytes new ≡ live_bytes rows → (first_idle rows ≡ None → first_idle new ≡ None) → is_settled budget new ≡ true
settled_from budget rows new settled bytes idle =
    elim (or_cases (nat_le (live_bytes rows) budget) (is_none (first_idle rows)) settled) [
      | inl fits ↦ or_left (nat_le (live_bytes new) budget) (is_none (first_idle new)) (ap (λ n. nat_le n budget) bytes ∙ fits)
      | inr none ↦ or_right (nat_le (live_bytes new) budget) (is_none (first_idle new)) (ap is_none (idle (by (first_idle rows) none)))
    ]
  where
    by : (o : Option Row) → is_none o ≡ true → o ≡ None
    by None h = refl
    by (Some row) h = absurd (cc)

held_not_idle : (pass : ℕ) (state : State) → is_idle (held_by pass state) ≡ false
held_not_idle pass (Running owner) = refl
held_not_idle pass (Live serial size holders) = ne_eqb (length (holders ++ pass ∷ [])) 0 (λ e. omega (arith, e, length-append holders (pass ∷ [])))

module _ {V : Type 0} where
  pub settled_start : (budget : ℕ) (rows : List (Kept V)) (pass class key : ℕ) → is_settled budget (map (λ kept. kept.row) rows) ≡ true
      → is_settled budget (map (λ kept. kept.row) (rows ++ record { row = row_in class key (Running pass); value = None } ∷ [])) ≡ true
  settled_start budget rows pass class key settled =
      let new : Kept V = record { row = row_in class key (Running pass); value = None } in
      let plain = map (λ (kept : Kept V). kept.row) rows in
      let made = map-append (λ (kept : Kept V). kept.row) rows (new ∷ []) in
      settled_from budget plain (map (λ kept. kept.row) (rows ++ new ∷ [])) settled
      (omega (arith, live_bytes-plain (rows ++ new ∷ []), live_bytes-plain rows, sum-last (λ (kept : Kept V). size_of kept.row.state) rows new))
      (λ none. ap first_idle made ∙ find-push_none (λ (row : Row). is_idle row.state) plain (row_in class key (Running pass)) none refl)

  pub settled_take : (budget : ℕ) (rows new : List (Kept V)) (pass class key i : ℕ) → is_settled budget (map (λ kept. kept.row) rows) ≡ true
      → position (is_kept class key) rows ≡ Some i → option_map (λ kept. is_any_live kept.row.state) (slice_get rows i) ≡ Some true
      → new ≡ moved_last i (changed_at (with_state (held_by pass)) i rows)
      → is_settled budget (map (λ kept. kept.row) new) ≡ true
  settled_take budget rows new pass class key i settled place any made =
      let item = item_from (λ (kept : Kept V). is_any_live kept.row.state) rows i true any in
      let k = item.0 in
      let k' = with_state (held_by pass) k in
      let at : IsAt class key rows i k = record { place = place; item = item.1 } in
      let is : new ≡ remove rows i ++ k' ∷ [] = made ∙ touched_last (with_state (held_by pass)) rows i k item.1 in
      let plain = map (λ (kept : Kept V). kept.row) rows in
      let rest = rows-removed class key rows i k at in
      settled_from budget plain (map (λ kept. kept.row) new) settled
      (omega (arith, live_bytes-plain new, live_bytes-plain rows, ap sizes is, sum-touched (λ (kept : Kept V). size_of kept.row.state) rows i k k' item.1, (held_is pass k.row.state item.2).0))
      (λ none. ap (λ r. first_idle (map (λ kept. kept.row) r)) is ∙ ap first_idle (map-append (λ (kept : Kept V). kept.row) (remove rows i) (k' ∷ []))
      ∙ find-push_none (λ (row : Row). is_idle row.state) (map (λ kept. kept.row) (remove rows i)) k'.row
      (ap first_idle rest ∙ find-without_none (λ (row : Row). is_idle row.state) (is_named class key) plain none) (held_not_idle pass k.row.state))

  pub settled_abandon : (budget : ℕ) (rows new : List (Kept V)) (pass class key i : ℕ) → is_settled budget (map (λ kept. kept.row) rows) ≡ true
      → position (is_kept class key) rows ≡ Some i → option_map (λ kept. is_running pass kept.row.state) (slice_get rows i) ≡ Some true
      → new ≡ remove rows i
      → is_settled budget (map (λ kept. kept.row) new) ≡ true
  settled_abandon budget rows new pass class key i settled place running made =
      let item = item_from (λ (kept : Kept V). is_running pass kept.row.state) rows i true running in
      let k = item.0 in
      let at : IsAt class key rows i k = record { place = place; item = item.1 } in
      let plain = map (λ (kept : Kept V). kept.row) rows in
      settled_from budget plain (map (λ kept. kept.row) new) settled
      (omega (arith, live_bytes-plain new, live_bytes-plain rows, ap sizes made, sum-removed (λ (kept : Kept V). size_of kept.row.state) rows i k item.1, (running_is pass k.row.state item.2).1))
      (λ none. ap (λ r. first_idle (map (λ kept. kept.row) r)) made ∙ ap first_idle (rows-removed class key rows i k at)
      ∙ find-without_none (λ (row : Row). is_idle row.state) (is_named class key) plain none)

  -- what a look finds at a place
  pub state_there : (class key : ℕ) (rows : List (Kept V)) (i : ℕ) → position (is_kept class key) rows ≡ Some i → (k : Kept V) × IsAt class key rows i k
  state_there class key rows i place =
      let at = place_from_position (is_kept class key) rows i place in
      let item = some_at rows i at.within in
      (item.0, record { place = place; item = item.1 })

  pub test_there : (test : State → Bool) (class key : ℕ) (rows : List (Kept V)) (i : ℕ) → position (is_kept class key) rows ≡ Some i → is_in test (state_of class key (map (λ kept. kept.row) rows)) ≡ true
      → option_map (λ kept. test kept.row.state) (slice_get rows i) ≡ Some true
  test_there test class key rows i place passes =
      let there = state_there class key rows i place in
      ap (option_map (λ (kept : Kept V). test kept.row.state)) there.1.item
      ∙ ap Some (sym (ap (is_in test) (state_found class key rows i there.0 there.1)) ∙ passes)

  -- there is a row where its state passes a test
  pub not_absent : {A : Type 0} (test : State → Bool) (class key : ℕ) (rows : List (Kept V)) → position (is_kept class key) rows ≡ None → is_in test (state_of class key (map (λ kept. kept.row) rows)) ≡ true → A
  not_absent test class key rows none passes = absurd (true≢false (sym passes ∙ ap (is_in test) (state_absent class key rows none)))

  -- the place of the row whose state passes a test
  pub place_where : (test : State → Bool) (class key : ℕ) (rows : List (Kept V)) → is_in test (state_of class key (map (λ kept. kept.row) rows)) ≡ true
      → (place : ℕ) × (position (is_kept class key) rows ≡ Some place) × (option_map (λ kept. test kept.row.state) (slice_get rows place) ≡ Some true)
  place_where test class key rows passes = by (position (is_kept class key) rows) refl
    where
      by : (o : Option ℕ) → position (is_kept class key) rows ≡ o
          → (place : ℕ) × (position (is_kept class key) rows ≡ Some place) × (option_map (λ kept. test kept.row.state) (slice_get rows place) ≡ Some true)
      by None e = not_absent test class key rows e passes
      by (Some place) e = (place, e, test_there test class key rows place e passes)

  -- no row is at a place where there is no state
  pub absent_from : (class key : ℕ) (rows : List (Kept V)) → state_of class key (map (λ kept. kept.row) rows) ≡ None → position (is_kept class key) rows ≡ None
  absent_from class key rows none = by (position (is_kept class key) rows) refl
    where
      by : (o : Option ℕ) → position (is_kept class key) rows ≡ o → o ≡ None
      by None e = refl
      by (Some i) e = let there = state_there class key rows i e in absurd (cc (state_found class key rows i there.0 there.1, none))

  -- the value of the row at a place is one that the rows have
  pub has_there : (class key : ℕ) (rows : List (Kept V)) (i serial : ℕ) (value : V) → position (is_kept class key) rows ≡ Some i
      → option_and_then (λ kept. serial_value kept.row.state kept.value) (slice_get rows i) ≡ Some (serial, value)
      → (k : Kept V) × (slice_get rows i ≡ Some k) × IsWith class key serial value k
  has_there class key rows i serial value place e =
      let there = state_there class key rows i place in
      let names = named_at class key rows i there.0 there.1 in
      (there.0, there.1.item, (names.0, names.1, sym (ap (option_and_then (λ (kept : Kept V). serial_value kept.row.state kept.value)) there.1.item) ∙ e))

module _ {V : Type 0} where
  first_idle_none : (rows : List (Kept V)) → position is_kept_idle rows ≡ None → first_idle (map (λ kept. kept.row) rows) ≡ None
  first_idle_none rows e = (none_from_position (λ (row : Row). is_idle row.state) (map (λ kept. kept.row) rows) (position-map (λ (kept : Kept V). kept.row) (λ (row : Row). is_idle row.state) is_kept_idle (λ kept. refl) rows ∙ e)).0

  -- where no row is idle the core is settled, and where one is and the budget is exceeded it is not
  pub next_none : (budget : ℕ) (rows : List (Kept V)) (o : Option ℕ) → o ≡ position is_kept_idle rows → IfNone o (is_settled budget (map (λ kept. kept.row) rows) ≡ true)
  next_none budget rows None e = or_right (nat_le (live_bytes (map (λ kept. kept.row) rows)) budget) (is_none (first_idle (map (λ kept. kept.row) rows))) (ap is_none (first_idle_none rows (sym e)))
  next_none budget rows (Some i) e = tt

  pub next_over : (budget : ℕ) (rows : List (Kept V)) (o : Option ℕ) → o ≡ position is_kept_idle rows → budget < sizes rows → OnSome o (is_settled budget (map (λ kept. kept.row) rows) ≡ false)
  next_over budget rows None e over = tt
  next_over budget rows (Some i) e over =
      let plain = map (λ (kept : Kept V). kept.row) rows in
      or_from (nat_le (live_bytes plain) budget) (is_none (first_idle plain)) (lt-leb (live_bytes plain) budget (omega (arith, over, live_bytes-plain rows)))
      (ap is_none (idle_place rows i (sym e)).3)

  settled_same : (old new : Cache V) → IsSettled (core_of old) → IsSame old new → IsSettled (core_of new)
  settled_same old new settled same = ap₂ (λ (b : ℕ) (l : List (Kept V)). is_settled b (map (λ kept. kept.row) l)) same.budget same.rows ∙ settled

  pub start_settled : {T E : Type 0} (r : Result T E) (old new : Cache V) (pass class key : ℕ) (entry : Entry) → IsSettled (core_of old) → OnOk r (Adds old new entry)
      → OnOk r (new.rows ≡ old.rows ++ record { row = row_in class key (Running pass); value = None } ∷ []) → OnErr r (IsSame old new) → IsSettled (core_of new)
  start_settled (Ok x) old new pass class key entry settled adds rows same =
      ap₂ (λ (b : ℕ) (l : List (Kept V)). is_settled b (map (λ kept. kept.row) l)) adds.budget rows ∙ settled_start old.budget old.rows pass class key settled
  start_settled (Err e) old new pass class key entry settled adds rows same = settled_same old new settled same

  pub take_settled : {T E : Type 0} (r : Result T E) (old new : Cache V) (pass class key i : ℕ) (entry : T → Entry) → IsSettled (core_of old)
      → position (is_kept class key) old.rows ≡ Some i → option_map (λ kept. is_any_live kept.row.state) (slice_get old.rows i) ≡ Some true
      → IfOk r (λ taken. Adds old new (entry taken))
      → OnOk r (new.rows ≡ moved_last i (changed_at (with_state (held_by pass)) i old.rows)) → OnErr r (IsSame old new) → IsSettled (core_of new)
  take_settled (Ok x) old new pass class key i entry settled place live adds rows same =
      ap (λ (b : ℕ). is_settled b (map (λ kept. kept.row) new.rows)) adds.budget ∙ settled_take old.budget old.rows new.rows pass class key i settled place live rows
  take_settled (Err e) old new pass class key i entry settled place live adds rows same = settled_same old new settled same

  -- a Running row has no value
  pub no_new_start : (old new : Cache V) (pass class key : ℕ) → new.rows ≡ old.rows ++ record { row = row_in class key (Running pass); value = None } ∷ [] → HasNoNewValue old new
  no_new_start old new pass class key made c k s v h =
      elim (has-last c k s v old.rows (record { row = row_in class key (Running pass); value = None }) (subst (HasValue c k s v) made h)) [
        | inl before ↦ before
        | inr last ↦ absurd (cc (last.2))
      ]

  pub no_new_take : {T E : Type 0} (r : Result T E) (old new : Cache V) (pass i : ℕ) → OnOk r (new.rows ≡ moved_last i (changed_at (with_state (held_by pass)) i old.rows)) → OnOk r (HasNoNewValue old new)
  no_new_take r old new pass i made = on_ok_map r made (λ m. λ c k s v h. has-held c k s v pass old.rows new.rows i m h)

  -- the value that is handed out is that of the row
  pub taken_has : {E A : Type 0} (r : Result (ℕ × A) E) (value : A → V) (class key : ℕ) (rows : List (Kept V)) (i : ℕ) → position (is_kept class key) rows ≡ Some i
      → IfOk r (λ taken. option_and_then (λ kept. serial_value kept.row.state kept.value) (slice_get rows i) ≡ Some (taken.0, value taken.1))
      → IfOk r (λ taken. HasValue class key taken.0 (value taken.1) rows)
  taken_has (Ok x) value class key rows i place e = let there = has_there class key rows i x.0 (value x.1) place e in has-at class key x.0 (value x.1) rows i there.0 there.1 there.2
  taken_has (Err x) value class key rows i place e = tt

  -- the one value that a Finish may bring
  pub one_new_finish : (rows new : List (Kept V)) (class key serial size pass i : ℕ) (value : V) → position (is_kept class key) rows ≡ Some i
      → new ≡ moved_last i (changed_at (with_value (Live serial size (pass ∷ [])) value) i rows)
      → (c k s : ℕ) (v : V) → HasValue c k s v new → HasValue c k s v rows ⊎ ((c ≡ class) × (k ≡ key) × (s ≡ serial) × (v ≡ value))
  one_new_finish rows new class key serial size pass i value place made c k s v h =
      elim (has-touched c k s v (with_value (Live serial size (pass ∷ [])) value) rows new i made h) [
        | inl before ↦ inl before
        | inr x ↦
            let names = named_at class key rows i x.0 (record { place = place; item = x.1 }) in
            let pair : (serial, value) ≡ (s, v) = some_from x.2.2 in
            inr (sym x.2.0 ∙ names.0, sym x.2.1 ∙ names.1, sym (ap (λ p. p.0) pair), sym (ap (λ p. p.1) pair))
      ]

  pub test_back : (test : State → Bool) (class key : ℕ) (rows : List (Kept V)) (i : ℕ) → position (is_kept class key) rows ≡ Some i → option_map (λ kept. test kept.row.state) (slice_get rows i) ≡ Some true
      → is_in test (state_of class key (map (λ kept. kept.row) rows)) ≡ true
  test_back test class key rows i place passes =
      let there = state_there class key rows i place in
      ap (is_in test) (state_found class key rows i there.0 there.1) ∙ same_item (λ (kept : Kept V). test kept.row.state) rows i there.0 true there.1.item passes
