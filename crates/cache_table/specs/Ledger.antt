-- What the parts of a ledger keep.
use Rattle.std.specs.Prelude.{ℕ, ◌≡◌, ◌+◌, ◌*◌, ◌^◌, ◌<◌, ◌≤◌, List, length, map, sum_by, Some}
use Rattle.std.specs.List.{AllByRecursion}
use Rattle.cache_core.specs.Rows.{size_of}
use Rattle.cache_core.specs.Core.{Core}
use Rattle.cache_core.specs.History.{replay_of, history_limit}
use Rattle.cache_core.specs.declared.entry.Entry.{Entry}
use Rattle.cache_table.specs.Kept.{Kept}
use Rattle.cache_table.specs.Cache.{needs, IsValued}

-- room for so many entries in all, which is below the limit
pub record HasRoom (entries capacity : ℕ) : Type 0 where
  pub few : entries < history_limit
  pub within : entries ≤ capacity

module _ {V : Type 0} where
  -- the core that rows and a history stand for
  abbrev pub core_from : ℕ → List Entry → List (Kept V) → Core
  core_from budget history rows = record { budget = budget; count = length history; rows = map (λ kept. kept.row) rows }

  -- the sizes of the rows, added up
  abbrev pub sizes : List (Kept V) → ℕ
  sizes rows = sum_by (λ kept. size_of kept.row.state) rows

  -- the history is legal and leaves the rows; each has its value; the sums are those of the rows; there is room for
  -- what must follow
  pub record IsLedger (budget : ℕ) (history : List Entry) (rows : List (Kept V)) (live owed len capacity : ℕ) : Type 0 where
    pub legal : replay_of budget history ≡ Some (core_from budget history rows)
    pub live_is : live ≡ sizes rows
    pub small : live ≤ length history * 2 ^ 32
    pub owed_is : owed ≡ needs rows
    pub valued : AllByRecursion IsValued rows
    pub len_is : len ≡ length history
    pub room : HasRoom (len + owed) capacity
