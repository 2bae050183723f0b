use Rattle.std.proofs.Common.{◌≡◌, ◌++◌, List, length}
use Rattle.std.specs.List.{AllByRecursion}
use Rattle.cache_core.specs.declared.entry.Entry.{Entry}
use Rattle.cache_table.specs.Kept.{rows_left}
use Rattle.cache_table.specs.Cache.{IsEvictBy, IsKept, HasNoNewValue}
use Rattle.cache_table.proofs.table.settle.Given as goal

-- the evictions so far
abbrev pub invariant-evicting : goal.invariant-evicting
invariant-evicting g l =
    (l.ledger.budget ≡ l.fn.ledger.budget)
    × ((evicts : List Entry) × AllByRecursion (IsEvictBy l.pass) evicts × (l.ledger.history ≡ l.fn.ledger.history ++ evicts) × (l.ledger.rows ≡ rows_left evicts l.fn.ledger.rows))
    × HasNoNewValue l.fn.ledger l.ledger
    × IsKept l.ledger

abbrev pub decreases-evicting : goal.decreases-evicting
decreases-evicting g l = length l.ledger.rows
