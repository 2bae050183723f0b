use Rattle.project_json.proofs.LawLemmas.{project_kept}
use Rattle.project_json.proofs.laws.project_keeps_rules.Goals as goal

pub returns : goal.returns
returns c = project_kept
