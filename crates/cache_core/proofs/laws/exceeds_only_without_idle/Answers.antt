use Rattle.cache_core.proofs.Evicting.{exceeds_only_without_idle}
use Rattle.cache_core.proofs.laws.exceeds_only_without_idle.Goals as goal

pub returns : goal.returns
returns c = exceeds_only_without_idle
