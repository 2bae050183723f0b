use Rattle.param_stream.proofs.Values.{value_within}
use Rattle.param_stream.proofs.laws.value_within_bounds.Goals as goal

pub returns : goal.returns
returns c = value_within
