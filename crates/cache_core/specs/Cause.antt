-- Why a history was not replayed.
use Rattle.std.specs.Prelude.{ℕ, List, ⊤}
use Rattle.cache_core.specs.History.{IsFirstIllegal}
use Rattle.cache_core.specs.declared.entry.Entry.{Entry}
use Rattle.cache_core.specs.declared.history.ReplayError.{ReplayError}
use Rattle.cache_core.specs.declared.history.ReplayError.TheVariants.{Illegal, Memory}

-- Illegal comes at the first entry that does not step; want of memory at any time
abbrev pub IsCause : ℕ → List Entry → ReplayError → Type 0
IsCause budget entries (Illegal at) = IsFirstIllegal budget entries at
IsCause budget entries Memory = ⊤
