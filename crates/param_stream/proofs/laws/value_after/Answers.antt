use Rattle.param_stream.proofs.Values.{after_last}
use Rattle.param_stream.proofs.laws.value_after.Goals as goal

pub returns : goal.returns
returns c = after_last
