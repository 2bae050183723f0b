use Rattle.cache_laws.proofs.Holding.{holds_are_counted}
use Rattle.cache_laws.proofs.laws.holds_are_counted.Goals as goal

pub returns : goal.returns
returns c = holds_are_counted
