-- What a look answers.
use Rattle.std.specs.Prelude.{Option, Some, None}
use Rattle.cache_core.specs.declared.row.State.{State}
use Rattle.cache_core.specs.declared.row.State.TheVariants.{Running as IsRunning, Live as IsLive}
use Rattle.cache_table.specs.declared.phase.Seen.{Seen}
use Rattle.cache_table.specs.declared.phase.Seen.TheVariants.{No, Running, Live}

-- what a look answers of a state, or of no row
abbrev pub seen_of : Option State → Seen
seen_of None = No
seen_of (Some (IsRunning owner)) = Running owner
seen_of (Some (IsLive serial size holders)) = Live serial
