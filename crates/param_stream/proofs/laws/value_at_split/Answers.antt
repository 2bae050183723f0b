use Rattle.param_stream.proofs.Values.{at_split}
use Rattle.param_stream.proofs.laws.value_at_split.Goals as goal

pub returns : goal.returns
returns c = at_split
