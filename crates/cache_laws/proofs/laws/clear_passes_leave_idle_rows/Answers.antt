use Rattle.cache_laws.proofs.Clear.{clear_passes_leave_idle_rows}
use Rattle.cache_laws.proofs.laws.clear_passes_leave_idle_rows.Goals as goal

pub returns : goal.returns
returns c = clear_passes_leave_idle_rows
