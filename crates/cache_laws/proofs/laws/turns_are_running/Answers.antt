use Rattle.cache_laws.proofs.Running.{turns_are_running}
use Rattle.cache_laws.proofs.laws.turns_are_running.Goals as goal

pub returns : goal.returns
returns c = turns_are_running
