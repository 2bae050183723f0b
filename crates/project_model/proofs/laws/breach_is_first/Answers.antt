use Rattle.project_model.proofs.Least.{least_breach}
use Rattle.project_model.proofs.laws.breach_is_first.Goals as goal

pub returns : goal.returns
returns c = least_breach
