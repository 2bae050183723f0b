use Rattle.cache_core.proofs.Evicting.{held_is_not_evicted}
use Rattle.cache_core.proofs.laws.held_is_not_evicted.Goals as goal

pub returns : goal.returns
returns c = held_is_not_evicted
