use Rattle.compute_cache.proofs.Stated.{right_on}
use Rattle.compute_cache.proofs.state.State.abandon.Goals as goal

pub invariant_of-self : goal.invariant_of-self
invariant_of-self g c = right_on (g.K.Keeps.meaning c.self.inside.job.value) c.self.inside.table c.abandon.new.self c.self.invariant c.abandon.ensures.values
