-- Histories in which every entry notes that there is no row.
use Rattle.std.specs.Prelude.{◌≡◌, List}
use Rattle.std.specs.List.{AllByRecursion}
use Rattle.cache_core.specs.declared.entry.Entry.{Entry}
use Rattle.cache_core.specs.declared.entry.Act.TheVariants.{NotCached}

abbrev pub AreNotes : List Entry → Type 0
AreNotes entries = AllByRecursion (λ entry. entry.act ≡ NotCached) entries
