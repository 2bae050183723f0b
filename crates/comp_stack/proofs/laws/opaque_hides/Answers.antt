use Rattle.comp_stack.proofs.Premultiplied.{hides}
use Rattle.comp_stack.proofs.laws.opaque_hides.Goals as goal

pub returns : goal.returns
returns c = hides
