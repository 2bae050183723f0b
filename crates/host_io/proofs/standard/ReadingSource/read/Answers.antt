use Rattle.host_io.proofs.Known.{nothing_left}
use Rattle.host_io.proofs.standard.ReadingSource.read.Goals as goal

pub returns-else-is_err-clause-nothing_left : goal.returns-else-is_err-clause-nothing_left
returns-else-is_err-clause-nothing_left g c =
    nothing_left _ _ c.read_some-outcome.result _ c.read_some-outcome.ensures.bound c.read_some-outcome.ensures.bytes
