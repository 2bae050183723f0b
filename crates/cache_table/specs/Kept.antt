-- The rows of a cache with their values.
use Rattle.std.specs.Prelude.{ℕ, ◌≡◌, ◌⊎◌, Bool, List, [], ◌∷◌, ◌++◌, slice_get, slice_set, remove, find, Option, Some, None, option_map}
use Rattle.std.specs.Option.{option_map_or}
use Rattle.cache_core.specs.Holds.{without_first}
use Rattle.cache_core.specs.Rows.{is_named, is_idle, row_in}
use Rattle.cache_core.specs.declared.entry.Entry.{Entry}
use Rattle.cache_core.specs.declared.row.Row.{Row}
use Rattle.cache_core.specs.declared.row.State.{State}
use Rattle.cache_core.specs.declared.row.State.TheVariants.{Running, Live}

-- a row, and its value where it is Live
pub record Kept (V : Type 0) : Type 0 where
  pub row : Row
  pub value : Option V

module _ {V : Type 0} where
  -- the serial of a Live row, with its value
  abbrev pub serial_value : State → Option V → Option (ℕ × V)
  serial_value (Running owner) value = None
  serial_value (Live serial size holders) value = option_map (λ v. (serial, v)) value

  -- the row is that of this class and key
  abbrev pub is_kept : ℕ → ℕ → Kept V → Bool
  is_kept class key kept = is_named class key kept.row

  -- the row is of this class and key, and Live with this serial and value
  abbrev pub IsWith : ℕ → ℕ → ℕ → V → Kept V → Type 0
  IsWith class key serial value kept = (kept.row.class ≡ class) × (kept.row.key ≡ key) × (serial_value kept.row.state kept.value ≡ Some (serial, value))

  -- there is such a row
  abbrev pub HasValue : ℕ → ℕ → ℕ → V → List (Kept V) → Type 0
  HasValue class key serial value [] = ⊥
  HasValue class key serial value (kept ∷ rows) = IsWith class key serial value kept ⊎ HasValue class key serial value rows

  -- a row that is computed, and so has no value
  abbrev pub kept_running : ℕ → ℕ → ℕ → Kept V
  kept_running pass class key = record { row = row_in class key (Running pass); value = None }

  -- the rows without that of a class and key
  abbrev pub without_kept : ℕ → ℕ → List (Kept V) → List (Kept V)
  without_kept class key rows = without_first (is_kept class key) rows

  -- the row of a class and key is changed, and goes last
  abbrev pub touched_kept : ℕ → ℕ → (Kept V → Kept V) → List (Kept V) → List (Kept V)
  touched_kept class key change rows =
      option_map_or (λ kept. without_kept class key rows ++ change kept ∷ []) (find (is_kept class key) rows) rows

  -- the rows that evictions leave
  abbrev pub rows_left : List Entry → List (Kept V) → List (Kept V)
  rows_left [] rows = rows
  rows_left (evict ∷ evicts) rows = rows_left evicts (without_kept evict.class evict.key rows)

  -- the row at a place is changed
  abbrev pub changed_at : (Kept V → Kept V) → ℕ → List (Kept V) → List (Kept V)
  changed_at change place rows = option_map_or (λ kept. slice_set rows place (change kept)) (slice_get rows place) rows

  -- the row at a place goes last
  abbrev pub moved_last : ℕ → List (Kept V) → List (Kept V)
  moved_last place rows = option_map_or (λ kept. remove rows place ++ kept ∷ []) (slice_get rows place) rows

  -- a row in another state, with its value
  abbrev pub with_state : (State → State) → Kept V → Kept V
  with_state change kept = record { row = row_in kept.row.class kept.row.key (change kept.row.state); value = kept.value }

  -- a row that is Live with a value
  abbrev pub with_value : State → V → Kept V → Kept V
  with_value state value kept = record { row = row_in kept.row.class kept.row.key state; value = Some value }

  -- a row that is Live with no holder
  abbrev pub is_kept_idle : Kept V → Bool
  is_kept_idle kept = is_idle kept.row.state
