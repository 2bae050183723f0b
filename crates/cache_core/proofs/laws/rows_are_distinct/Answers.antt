use Rattle.cache_core.proofs.Distinct.{legal_rows_are_distinct}
use Rattle.cache_core.proofs.laws.rows_are_distinct.Goals as goal

pub returns : goal.returns
returns c = legal_rows_are_distinct
