use Rattle.project_model.proofs.Ranked.{ranks_above}
use Rattle.project_model.proofs.laws.ranks_are_above.Goals as goal

pub returns : goal.returns
returns c = ranks_above
