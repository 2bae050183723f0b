use Rattle.rational_time.proofs.Bases.{any_order}
use Rattle.rational_time.proofs.laws.base_ignores_order.Goals as goal

pub returns : goal.returns
returns c = any_order
