use Rattle.cache_laws.proofs.Distincts.{distinct_names_are_counted}
use Rattle.cache_laws.proofs.laws.distinct_names_are_counted.Goals as goal

pub returns : goal.returns
returns c = distinct_names_are_counted
