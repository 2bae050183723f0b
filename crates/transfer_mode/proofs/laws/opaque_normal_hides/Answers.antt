use Rattle.transfer_mode.proofs.Rules.{opaque_hides}
use Rattle.transfer_mode.proofs.laws.opaque_normal_hides.Goals as goal

pub returns : goal.returns
returns c = opaque_hides
