use Rattle.transfer_mode.proofs.Rules.{symmetric}
use Rattle.transfer_mode.proofs.laws.symmetric_modes_exchange.Goals as goal

pub returns : goal.returns
returns c = symmetric
