use Rattle.project_json.proofs.LawLemmas.{refusal_least}
use Rattle.project_json.proofs.laws.refusal_is_least.Goals as goal

pub returns : goal.returns
returns c = refusal_least
