use Rattle.effect_api.proofs.Checking.{take_keeps}
use Rattle.effect_api.proofs.checkouts.Checkouts+MAX+K.take.Goals as goal

pub invariant_of-self : goal.invariant_of-self
invariant_of-self g c = take_keeps _ _ c.pop.result c.self.invariant c.pop.ensures.items c.pop.ensures.capacity
