use Rattle.param_stream.proofs.Rising.{both_rise}
use Rattle.param_stream.proofs.laws.rises_in_ticks.Goals as goal

pub returns : goal.returns
returns c = both_rise
