use Rattle.cache_laws.proofs.Single.{single_flight}
use Rattle.cache_laws.proofs.laws.single_flight.Goals as goal

pub returns : goal.returns
returns c = single_flight
