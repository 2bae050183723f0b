use Rattle.cache_core.proofs.Serials.{legal_serials_are_below}
use Rattle.cache_core.proofs.laws.serials_are_below.Goals as goal

pub returns : goal.returns
returns c = legal_serials_are_below
