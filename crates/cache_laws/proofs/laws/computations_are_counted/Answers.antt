use Rattle.cache_laws.proofs.Counting.{computations_are_counted}
use Rattle.cache_laws.proofs.laws.computations_are_counted.Goals as goal

pub returns : goal.returns
returns c = computations_are_counted
