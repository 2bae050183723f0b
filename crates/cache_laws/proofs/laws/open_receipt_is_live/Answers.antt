use Rattle.cache_laws.proofs.Holding.{open_receipt_is_live}
use Rattle.cache_laws.proofs.laws.open_receipt_is_live.Goals as goal

pub returns : goal.returns
returns c = open_receipt_is_live
