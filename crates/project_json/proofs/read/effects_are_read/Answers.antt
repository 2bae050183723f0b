use Rattle.project_json.proofs.WorkedLemmas.{effects}
use Rattle.project_json.proofs.read.effects_are_read.Goals as goal

pub returns : goal.returns
returns c = effects
