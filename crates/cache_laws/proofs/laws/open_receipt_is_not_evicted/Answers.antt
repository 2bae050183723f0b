use Rattle.cache_laws.proofs.Holding.{open_receipt_is_not_evicted}
use Rattle.cache_laws.proofs.laws.open_receipt_is_not_evicted.Goals as goal

pub returns : goal.returns
returns c = open_receipt_is_not_evicted
