use Rattle.cache_laws.proofs.Clear.{clear_pass_has_no_row}
use Rattle.cache_laws.proofs.laws.clear_pass_has_no_row.Goals as goal

pub returns : goal.returns
returns c = clear_pass_has_no_row
