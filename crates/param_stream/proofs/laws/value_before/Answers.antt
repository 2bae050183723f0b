use Rattle.param_stream.proofs.Values.{before_first}
use Rattle.param_stream.proofs.laws.value_before.Goals as goal

pub returns : goal.returns
returns c = before_first
