use Rattle.transfer_mode.proofs.Rules.{blend_premultiplied}
use Rattle.transfer_mode.proofs.laws.blend_is_premultiplied.Goals as goal

pub returns : goal.returns
returns c = blend_premultiplied
