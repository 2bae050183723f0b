use Rattle.comp_stack.proofs.Premultiplied.{stack_fits}
use Rattle.comp_stack.proofs.laws.stack_is_premultiplied.Goals as goal

pub returns : goal.returns
returns c = stack_fits
