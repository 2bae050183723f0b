use Rattle.transfer_mode.proofs.Rules.{transparent_leaves}
use Rattle.transfer_mode.proofs.laws.transparent_source_leaves.Goals as goal

pub returns : goal.returns
returns c = transparent_leaves
