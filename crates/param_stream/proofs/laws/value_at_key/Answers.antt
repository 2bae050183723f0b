use Rattle.param_stream.proofs.Values.{at_key}
use Rattle.param_stream.proofs.laws.value_at_key.Goals as goal

pub returns : goal.returns
returns c = at_key
