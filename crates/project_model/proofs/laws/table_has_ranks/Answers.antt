use Rattle.project_model.proofs.Ranked.{table_ranks}
use Rattle.project_model.proofs.laws.table_has_ranks.Goals as goal

pub returns : goal.returns
returns c = table_ranks
