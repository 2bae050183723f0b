use Rattle.cache_core.proofs.Serials.{legal_counts}
use Rattle.cache_core.proofs.laws.legal_counts.Goals as goal

pub returns : goal.returns
returns c = legal_counts
