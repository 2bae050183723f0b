-- Laws of passes over all legal histories.
use Rattle.std.specs.Prelude.{ℕ, ◌≡◌, ◌+◌, ◌<◌, ◌↔◌, true, false, List, Some, None, take, nat_eq, count_by, if◌then◌else◌}
use Rattle.std.specs.List.{AllByRecursion, list_any}
use Rattle.std.specs.Option.{option_map_or}
use Rattle.cache_core.specs.Rows.{state_of, is_running, is_held_by, is_idle, AreDistinct}
use Rattle.cache_core.specs.Core.{Core, is_in, step}
use Rattle.cache_core.specs.History.{IsLegal}
use Rattle.cache_core.specs.Laws.{Leaves}
use Rattle.cache_core.specs.declared.entry.Entry.{Entry}
use Rattle.cache_core.specs.declared.entry.Act.TheVariants.{Evict}
use Rattle.cache_core.specs.declared.row.Row.{Row}
use Rattle.cache_core.specs.declared.row.State.{State}
use Rattle.cache_core.specs.declared.row.State.TheVariants.{Running, Live}
use Rattle.turn_lock.specs.Entries.{entries_of, computes, holds_taken, holds_given, IsClear}

-- how often a pass holds the value with this serial, by the state of its row: not at all while the row is Running or
-- Live with another serial
abbrev pub holds_in : ℕ → ℕ → State → ℕ
holds_in pass wanted (Running owner) = 0
holds_in pass wanted (Live serial size holders) = if nat_eq serial wanted then count_by (nat_eq pass) holders else 0

-- and by the rows: not at all where there is no row of the class and key
abbrev pub holds_of : ℕ → ℕ → ℕ → ℕ → List Row → ℕ
holds_of pass class key serial rows = option_map_or (holds_in pass serial) (state_of class key rows) 0

-- what a pass holds, and what it gave back, is what it took
abbrev pub HoldsAreCounted : Type 0
HoldsAreCounted =
    (budget : ℕ) (history : List Entry) (core : Core) → Leaves budget history core → (pass class key serial : ℕ)
    → holds_of pass class key serial core.rows + holds_given class key serial (entries_of pass history) ≡ holds_taken class key serial (entries_of pass history)

-- the pass took the value more often than it gave it back
abbrev pub IsOpen : ℕ → ℕ → ℕ → List Entry → Type 0
IsOpen class key serial mine = holds_given class key serial mine < holds_taken class key serial mine

-- such a value is in the cache, and the pass is among its holders
abbrev pub OpenReceiptIsLive : Type 0
OpenReceiptIsLive =
    (budget : ℕ) (history : List Entry) (core : Core) → Leaves budget history core → (pass class key serial : ℕ)
    → IsOpen class key serial (entries_of pass history)
    → (size : ℕ) × (holders : List ℕ) × (state_of class key core.rows ≡ Some (Live serial size holders)) × (list_any (nat_eq pass) holders ≡ true)

-- and no entry evicts it
abbrev pub OpenReceiptIsNotEvicted : Type 0
OpenReceiptIsNotEvicted =
    (budget : ℕ) (history : List Entry) (core : Core) → Leaves budget history core → (pass class key serial : ℕ)
    → IsOpen class key serial (entries_of pass history)
    → (entry : Entry) (evicted : ℕ) → entry.class ≡ class → entry.key ≡ key → entry.act ≡ Evict evicted
    → step core entry ≡ None

-- a pass computes the value of a class and key exactly where their row is Running with it as the owner
abbrev pub TurnsAreRunning : Type 0
TurnsAreRunning =
    (budget : ℕ) (history : List Entry) (core : Core) → Leaves budget history core → (pass class key : ℕ)
    → (computes class key false (entries_of pass history) ≡ true) ↔ (is_in (is_running pass) (state_of class key core.rows) ≡ true)

-- a pass neither owns the row nor holds it
pub record IsFree (pass : ℕ) (state : State) : Type 0 where
  pub not_owned : is_running pass state ≡ false
  pub not_held : is_held_by pass state ≡ false

-- a pass is clear exactly where it owns no row and holds none
abbrev pub ClearPassHasNoRow : Type 0
ClearPassHasNoRow =
    (budget : ℕ) (history : List Entry) (core : Core) → Leaves budget history core → (pass : ℕ)
    → IsClear (entries_of pass history) ↔ AllByRecursion (λ row. IsFree pass row.state) core.rows

-- where every pass is clear, each row is Live without a holder
abbrev pub ClearPassesLeaveIdleRows : Type 0
ClearPassesLeaveIdleRows =
    (budget : ℕ) (history : List Entry) (core : Core) → Leaves budget history core
    → ((number : ℕ) → IsClear (entries_of number history))
    → AllByRecursion (λ row. is_idle row.state ≡ true) core.rows

-- each beginning of a legal history is legal, and leaves at most one row of a class and key: at most one computation
-- that runs, or one value
abbrev pub SingleFlight : Type 0
SingleFlight =
    (budget : ℕ) (history : List Entry) → IsLegal budget history → (n : ℕ)
    → (core : Core) × Leaves budget (take n history) core × AreDistinct core.rows
