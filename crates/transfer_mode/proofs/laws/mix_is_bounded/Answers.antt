use Rattle.transfer_mode.proofs.Rules.{mix_bounded}
use Rattle.transfer_mode.proofs.laws.mix_is_bounded.Goals as goal

pub returns : goal.returns
returns c = mix_bounded
