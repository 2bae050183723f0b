-- Laws over all legal histories.
use Rattle.std.specs.Prelude.{ℕ, ◌≡◌, ◌<◌, false, List, [], Some, length, ⊤}
use Rattle.std.specs.List.{AllByRecursion}
use Rattle.cache_core.specs.Rows.{state_of, is_idle, live_bytes, AreDistinct}
use Rattle.cache_core.specs.Core.{Core, IsSettled, step}
use Rattle.cache_core.specs.History.{replay_of}
use Rattle.cache_core.specs.declared.entry.Entry.{Entry}
use Rattle.cache_core.specs.declared.entry.Act.{Act}
use Rattle.cache_core.specs.declared.entry.Act.TheVariants.{Start, Hit, Pending, NotCached, Finish, Abandon, Give, Evict}
use Rattle.cache_core.specs.declared.row.State.{State}
use Rattle.cache_core.specs.declared.row.State.TheVariants.{Running, Live}

-- the history is legal, and leaves this core
abbrev pub Leaves : ℕ → List Entry → Core → Type 0
Leaves budget entries core = replay_of budget entries ≡ Some core

-- the core that a legal history leaves has its budget, and counts its entries
abbrev pub LegalCounts : Type 0
LegalCounts =
    (budget : ℕ) (entries : List Entry) (core : Core) → Leaves budget entries core
    → (core.budget ≡ budget) × (core.count ≡ length entries)

-- no two rows of a core that a legal history leaves have the same class and key
abbrev pub RowsAreDistinct : Type 0
RowsAreDistinct = (budget : ℕ) (entries : List Entry) (core : Core) → Leaves budget entries core → AreDistinct core.rows

-- an Evict that steps takes a row that no pass holds
abbrev pub HeldIsNotEvicted : Type 0
HeldIsNotEvicted =
    (budget : ℕ) (entries : List Entry) (core next : Core) (entry : Entry) (serial : ℕ)
    → Leaves budget entries core → step core entry ≡ Some next → entry.act ≡ Evict serial
    → (size : ℕ) × (state_of entry.class entry.key core.rows ≡ Some (Live serial size []))

-- the serial of a state, if it has one, is below the count
abbrev pub StateIsBelow : ℕ → State → Type 0
StateIsBelow count (Running owner) = ⊤
StateIsBelow count (Live serial size holders) = serial < count

-- the serial of an act, if it has one, is below the count
abbrev pub ActIsBelow : ℕ → Act → Type 0
ActIsBelow count Start = ⊤
ActIsBelow count (Hit serial) = serial < count
ActIsBelow count (Pending owner) = ⊤
ActIsBelow count NotCached = ⊤
ActIsBelow count (Finish serial size) = serial < count
ActIsBelow count Abandon = ⊤
ActIsBelow count (Give serial) = serial < count
ActIsBelow count (Evict serial) = serial < count

-- each serial in a row or in an entry is below the count
pub record SerialsAreBelow (history : List Entry) (core : Core) : Type 0 where
  pub rows : AllByRecursion (λ row. StateIsBelow core.count row.state) core.rows
  pub entries : AllByRecursion (λ entry. ActIsBelow core.count entry.act) history

abbrev pub LegalSerialsAreBelow : Type 0
LegalSerialsAreBelow = (budget : ℕ) (entries : List Entry) (core : Core) → Leaves budget entries core → SerialsAreBelow entries core

-- once settled, live bytes exceed the budget only where no row is idle
abbrev pub ExceedsOnlyWithoutIdle : Type 0
ExceedsOnlyWithoutIdle =
    (core : Core) → IsSettled core → core.budget < live_bytes core.rows → AllByRecursion (λ row. is_idle row.state ≡ false) core.rows
