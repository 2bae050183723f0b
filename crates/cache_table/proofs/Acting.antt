-- A ledger after each act.
use Rattle.std.proofs.Common.{◌≡◌, ℕ, ◌+◌, ◌^◌, ◌<◌, true, false, ◌&&◌, List, [], ◌∷◌, ◌++◌, length, refl, ap, ap₂, ◌∙◌, subst, arith, nat_eq, eq-eqb}
use Rattle.std.specs.Prelude.{Some, None, is_none, map, position, remove, slice_get, option_map, not}
use Rattle.std.specs.Option.{option_map_or}
use Rattle.std.proofs.lemmas.Bool.{and_from}
use Rattle.cache_core.specs.Rows.{state_of, is_named, row_in, is_running, is_live, is_held_by, held_by, released_by, size_of}
use Rattle.cache_core.specs.Core.{is_settled, is_in, is_next_out}
use Rattle.cache_core.specs.declared.entry.Entry.{Entry}
use Rattle.cache_core.specs.declared.entry.Act.TheVariants.{Start, Hit, Finish, Abandon, Give, Evict}
use Rattle.cache_core.specs.declared.row.Row.{Row}
use Rattle.cache_core.specs.declared.row.State.TheVariants.{Running, Live}
use Rattle.cache_core.proofs.Firsts.{none_from_position}
use Rattle.cache_core.proofs.Distinct.{legal_rows_are_distinct}
use Rattle.cache_table.specs.Kept.{Kept, is_kept, is_kept_idle, changed_at, moved_last, with_state, with_value, without_kept}
use Rattle.cache_table.specs.Cache.{need_of, is_any_live, IsValued}
use Rattle.cache_table.specs.Ledger.{core_from, HasRoom, IsLedger}
use Rattle.cache_table.proofs.Slotted.{position-map, map-append}
use Rattle.cache_table.proofs.Keeping.{without_at, all-last, held_valued, released_valued, IsAt, state_found, ledger_more, ledger_touched, ledger_removed, item_from, same_item, row_in_at, sum-last, running_is, held_is, released_is, idle_is, own_place, idle_place}

module _ {V : Type 0} where
  -- the rows as a core has them
  abbrev plain : List (Kept V) → List Row
  plain rows = map (λ kept. kept.row) rows

  pub state_absent : (class key : ℕ) (rows : List (Kept V)) → position (is_kept class key) rows ≡ None → state_of class key (plain rows) ≡ None
  state_absent class key rows e =
      ap (option_map (λ row. row.state)) (none_from_position (is_named class key) (plain rows) (position-map (λ (kept : Kept V). kept.row) (is_named class key) (is_kept class key) (λ kept. refl) rows ∙ e)).0

  pub after_start : (budget : ℕ) (history history' : List Entry) (rows rows' : List (Kept V)) (live owed len capacity owed' len' capacity' pass class key : ℕ)
      → IsLedger budget history rows live owed len capacity
      → is_settled budget (plain rows) ≡ true → position (is_kept class key) rows ≡ None
      → owed' ≡ owed + 3 → len' ≡ len + 1 → HasRoom (len' + owed') capacity'
      → history' ≡ history ++ record { pass = pass; class = class; key = key; act = Start } ∷ []
      → rows' ≡ rows ++ record { row = row_in class key (Running pass); value = None } ∷ []
      → IsLedger budget history' rows' live owed' len' capacity'
  after_start budget history history' rows rows' live owed len capacity owed' len' capacity' pass class key ledger settled absent owed_is len_is room h r =
      let new : Kept V = record { row = row_in class key (Running pass); value = None } in
      ledger_more budget history history' rows rows' (rows ++ new ∷ []) live owed len capacity live owed' len' capacity'
      (record { pass = pass; class = class; key = key; act = Start }) ledger
      (and_from (is_settled budget (plain rows)) (is_none (state_of class key (plain rows))) settled (ap is_none (state_absent class key rows absent)))
      (map-append (λ (kept : Kept V). kept.row) rows (new ∷ []))
      (omega (arith, ledger.live_is, sum-last (λ (kept : Kept V). size_of kept.row.state) rows new)) (omega arith)
      (omega (arith, owed_is, ledger.owed_is, sum-last (λ (kept : Kept V). need_of kept.row.state) rows new)) (all-last IsValued rows new ledger.valued refl) len_is room h r

  pub after_hit : (budget : ℕ) (history history' : List Entry) (rows rows' : List (Kept V)) (live owed len capacity owed' len' capacity' pass class key serial i : ℕ)
      → IsLedger budget history rows live owed len capacity
      → is_settled budget (plain rows) ≡ true → position (is_kept class key) rows ≡ Some i
      → option_map (λ kept. is_any_live kept.row.state) (slice_get rows i) ≡ Some true
      → option_map (λ kept. is_live serial kept.row.state) (slice_get rows i) ≡ Some true
      → owed' ≡ owed + 1 → len' ≡ len + 1 → HasRoom (len' + owed') capacity'
      → history' ≡ history ++ record { pass = pass; class = class; key = key; act = Hit serial } ∷ []
      → rows' ≡ moved_last i (changed_at (with_state (held_by pass)) i rows)
      → IsLedger budget history' rows' live owed' len' capacity'
  after_hit budget history history' rows rows' live owed len capacity owed' len' capacity' pass class key serial i ledger settled place any live_row owed_is len_is room h r =
      let item = item_from (λ (kept : Kept V). is_any_live kept.row.state) rows i true any in
      let k = item.0 in
      let at : IsAt class key rows i k = record { place = place; item = item.1 } in
      let live_k : is_live serial k.row.state ≡ true = same_item (λ (kept : Kept V). is_live serial kept.row.state) rows i k true item.1 live_row in
      let sums = held_is pass k.row.state item.2 in
      ledger_touched budget history history' rows rows' live owed len capacity live owed' len' capacity'
      (record { pass = pass; class = class; key = key; act = Hit serial }) i k (with_state (held_by pass)) (held_by pass) ledger at
      (and_from (is_settled budget (plain rows)) (is_in (is_live serial) (state_of class key (plain rows))) settled (ap (is_in (is_live serial)) (state_found class key rows i k at) ∙ live_k))
      refl (row_in_at class key rows i k (held_by pass k.row.state) at)
      (omega (arith, sums.0)) (omega arith) (omega (arith, sums.1, owed_is)) (held_valued pass k) len_is room h r

  pub after_finish : (budget : ℕ) (history history' : List Entry) (rows rows' : List (Kept V)) (live owed len capacity live' owed' len' capacity' pass class key serial size i : ℕ) (value : V)
      → IsLedger budget history rows live owed len capacity
      → is_settled budget (plain rows) ≡ true → position (is_kept class key) rows ≡ Some i
      → option_map (λ kept. is_running pass kept.row.state) (slice_get rows i) ≡ Some true
      → serial ≡ length history → size < 2 ^ 32
      → live' ≡ live + size → owed' + 1 ≡ owed → len' ≡ len + 1 → HasRoom (len' + owed') capacity'
      → history' ≡ history ++ record { pass = pass; class = class; key = key; act = Finish serial size } ∷ []
      → rows' ≡ moved_last i (changed_at (with_value (Live serial size (pass ∷ [])) value) i rows)
      → IsLedger budget history' rows' live' owed' len' capacity'
  after_finish budget history history' rows rows' live owed len capacity live' owed' len' capacity' pass class key serial size i value ledger settled place running count small live_is owed_is len_is room h r =
      let item = item_from (λ (kept : Kept V). is_running pass kept.row.state) rows i true running in
      let k = item.0 in
      let at : IsAt class key rows i k = record { place = place; item = item.1 } in
      let sums = running_is pass k.row.state item.2 in
      let state = state_of class key (plain rows) in
      ledger_touched budget history history' rows rows' live owed len capacity live' owed' len' capacity'
      (record { pass = pass; class = class; key = key; act = Finish serial size }) i k (with_value (Live serial size (pass ∷ [])) value) (λ _. Live serial size (pass ∷ [])) ledger at
      (and_from (is_settled budget (plain rows)) (is_in (is_running pass) state && nat_eq serial (length history)) settled
      (and_from (is_in (is_running pass) state) (nat_eq serial (length history)) (ap (is_in (is_running pass)) (state_found class key rows i k at) ∙ item.2) (eq-eqb serial (length history) count)))
      refl (row_in_at class key rows i k (Live serial size (pass ∷ [])) at)
      (omega (arith, sums.1, live_is)) (omega (arith, live_is, small)) (omega (arith, sums.0, owed_is)) (λ _. refl) len_is room h r

  pub after_abandon : (budget : ℕ) (history history' : List Entry) (rows rows' : List (Kept V)) (live owed len capacity owed' len' capacity' pass class key i : ℕ)
      → IsLedger budget history rows live owed len capacity
      → is_settled budget (plain rows) ≡ true → position (is_kept class key) rows ≡ Some i
      → option_map (λ kept. is_running pass kept.row.state) (slice_get rows i) ≡ Some true
      → owed' + 3 ≡ owed → len' ≡ len + 1 → HasRoom (len' + owed') capacity'
      → history' ≡ history ++ record { pass = pass; class = class; key = key; act = Abandon } ∷ []
      → rows' ≡ remove rows i
      → IsLedger budget history' rows' live owed' len' capacity'
  after_abandon budget history history' rows rows' live owed len capacity owed' len' capacity' pass class key i ledger settled place running owed_is len_is room h r =
      let item = item_from (λ (kept : Kept V). is_running pass kept.row.state) rows i true running in
      let k = item.0 in
      let at : IsAt class key rows i k = record { place = place; item = item.1 } in
      let sums = running_is pass k.row.state item.2 in
      ledger_removed budget history history' rows rows' live owed len capacity live owed' len' capacity'
      (record { pass = pass; class = class; key = key; act = Abandon }) i k ledger at
      (and_from (is_settled budget (plain rows)) (is_in (is_running pass) (state_of class key (plain rows))) settled (ap (is_in (is_running pass)) (state_found class key rows i k at) ∙ item.2))
      refl (omega (arith, sums.1)) (omega (arith, sums.0, owed_is)) len_is room h r

  pub after_give : (budget : ℕ) (history history' : List Entry) (rows rows' : List (Kept V)) (live owed len capacity owed' len' capacity' pass class key serial i : ℕ)
      → IsLedger budget history rows live owed len capacity
      → is_settled budget (plain rows) ≡ true → position (is_kept class key) rows ≡ Some i
      → option_map (λ kept. is_held_by pass kept.row.state) (slice_get rows i) ≡ Some true
      → option_map (λ kept. is_live serial kept.row.state) (slice_get rows i) ≡ Some true
      → owed' + 1 ≡ owed → len' ≡ len + 1 → HasRoom (len' + owed') capacity'
      → history' ≡ history ++ record { pass = pass; class = class; key = key; act = Give serial } ∷ []
      → rows' ≡ moved_last i (changed_at (with_state (released_by pass)) i rows)
      → IsLedger budget history' rows' live owed' len' capacity'
  after_give budget history history' rows rows' live owed len capacity owed' len' capacity' pass class key serial i ledger settled place held live_row owed_is len_is room h r =
      let item = item_from (λ (kept : Kept V). is_held_by pass kept.row.state) rows i true held in
      let k = item.0 in
      let at : IsAt class key rows i k = record { place = place; item = item.1 } in
      let live_k : is_live serial k.row.state ≡ true = same_item (λ (kept : Kept V). is_live serial kept.row.state) rows i k true item.1 live_row in
      let sums = released_is pass k.row.state item.2 in
      let state = state_of class key (plain rows) in
      ledger_touched budget history history' rows rows' live owed len capacity live owed' len' capacity'
      (record { pass = pass; class = class; key = key; act = Give serial }) i k (with_state (released_by pass)) (released_by pass) ledger at
      (and_from (is_settled budget (plain rows)) (is_in (is_live serial) state && is_in (is_held_by pass) state) settled
      (and_from (is_in (is_live serial) state) (is_in (is_held_by pass) state) (ap (is_in (is_live serial)) (state_found class key rows i k at) ∙ live_k) (ap (is_in (is_held_by pass)) (state_found class key rows i k at) ∙ item.2)))
      refl (row_in_at class key rows i k (released_by pass k.row.state) at)
      (omega (arith, sums.0)) (omega arith) (omega (arith, sums.1, owed_is)) (released_valued pass k) len_is room h r

  -- the row at the place of the first idle row is that of its class and key
  pub evicted_at : (budget : ℕ) (history : List Entry) (rows : List (Kept V)) (live owed len capacity class key i : ℕ)
      → IsLedger budget history rows live owed len capacity
      → position is_kept_idle rows ≡ Some i
      → option_map (λ kept. kept.row.class) (slice_get rows i) ≡ Some class
      → option_map (λ kept. kept.row.key) (slice_get rows i) ≡ Some key
      → remove rows i ≡ without_kept class key rows
  evicted_at budget history rows live owed len capacity class key i ledger idle class_is key_is =
      let item = idle_place rows i idle in
      let k = item.0 in
      let class_k : k.row.class ≡ class = same_item (λ (kept : Kept V). kept.row.class) rows i k class item.1 class_is in
      let key_k : k.row.key ≡ key = same_item (λ (kept : Kept V). kept.row.key) rows i k key item.1 key_is in
      let own = own_place rows i k (legal_rows_are_distinct budget history (core_from budget history rows) ledger.legal) item.1 in
      let at : IsAt class key rows i k = subst (λ a. IsAt a key rows i k) class_k (subst (λ b. IsAt k.row.class b rows i k) key_k own) in
      without_at class key rows i at.place

  pub after_evict : (budget : ℕ) (history history' : List Entry) (rows rows' : List (Kept V)) (live owed len capacity live' owed' len' capacity' pass class key serial i : ℕ)
      → IsLedger budget history rows live owed len capacity
      → is_settled budget (plain rows) ≡ false → position is_kept_idle rows ≡ Some i
      → option_map (λ kept. kept.row.class) (slice_get rows i) ≡ Some class
      → option_map (λ kept. kept.row.key) (slice_get rows i) ≡ Some key
      → option_map (λ kept. is_live serial kept.row.state) (slice_get rows i) ≡ Some true
      → option_map (λ kept. live' + size_of kept.row.state) (slice_get rows i) ≡ Some live
      → owed' + 1 ≡ owed → len' ≡ len + 1 → HasRoom (len' + owed') capacity'
      → history' ≡ history ++ record { pass = pass; class = class; key = key; act = Evict serial } ∷ []
      → rows' ≡ remove rows i
      → IsLedger budget history' rows' live' owed' len' capacity'
  after_evict budget history history' rows rows' live owed len capacity live' owed' len' capacity' pass class key serial i ledger over idle class_is key_is live_row live_is owed_is len_is room h r =
      let item = idle_place rows i idle in
      let k = item.0 in
      let class_k : k.row.class ≡ class = same_item (λ (kept : Kept V). kept.row.class) rows i k class item.1 class_is in
      let key_k : k.row.key ≡ key = same_item (λ (kept : Kept V). kept.row.key) rows i k key item.1 key_is in
      let live_k : is_live serial k.row.state ≡ true = same_item (λ (kept : Kept V). is_live serial kept.row.state) rows i k true item.1 live_row in
      let size_k : live' + size_of k.row.state ≡ live = same_item (λ (kept : Kept V). live' + size_of kept.row.state) rows i k live item.1 live_is in
      let own = own_place rows i k (legal_rows_are_distinct budget history (core_from budget history rows) ledger.legal) item.1 in
      let at : IsAt class key rows i k = subst (λ a. IsAt a key rows i k) class_k (subst (λ b. IsAt k.row.class b rows i k) key_k own) in
      let named : is_named class key k.row ≡ true = ap₂ (λ a b. a && b) (eq-eqb k.row.class class class_k) (eq-eqb k.row.key key key_k) in
      let sums = idle_is k.row.state item.2 in
      ledger_removed budget history history' rows rows' live owed len capacity live' owed' len' capacity'
      (record { pass = pass; class = class; key = key; act = Evict serial }) i k ledger at
      (and_from (not (is_settled budget (plain rows))) (is_next_out class key serial (plain rows)) (ap not over)
      (ap (λ o. option_map_or (λ row. is_named class key row && is_live serial row.state) o false) item.3 ∙ and_from (is_named class key k.row) (is_live serial k.row.state) named live_k))
      refl size_k (omega (arith, sums.0, owed_is)) len_is room h r
