use Rattle.rational_time.proofs.Multiples.{least}
use Rattle.rational_time.proofs.laws.common_base_is_least.Goals as goal

pub returns : goal.returns
returns c = least
