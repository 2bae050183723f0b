use Rattle.project_model.proofs.Least.{rules_kept}
use Rattle.project_model.proofs.laws.rules_are_kept.Goals as goal

pub returns : goal.returns
returns c = rules_kept
