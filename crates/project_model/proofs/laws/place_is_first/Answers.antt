use Rattle.project_model.proofs.First.{place_first}
use Rattle.project_model.proofs.laws.place_is_first.Goals as goal

pub returns : goal.returns
returns c = place_first
