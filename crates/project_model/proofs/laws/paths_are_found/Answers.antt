use Rattle.project_model.proofs.Nesting.{paths_found}
use Rattle.project_model.proofs.laws.paths_are_found.Goals as goal

pub returns : goal.returns
returns c = paths_found
