use Rattle.param_stream.proofs.Values.{neighbours_within}
use Rattle.param_stream.proofs.laws.value_between_neighbours.Goals as goal

pub returns : goal.returns
returns c = neighbours_within
