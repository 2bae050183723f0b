use Rattle.compute_cache.proofs.Stated.{right_on, right_same}
use Rattle.compute_cache.proofs.state.State.ask_absent.Goals as goal

pub invariant_of-self : goal.invariant_of-self
invariant_of-self g c =
    right_same (g.K.Keeps.meaning c.self.inside.job.value) c.start.result _ c.self.inside.table c.start.new.self c.in_err-start-in-Begin.was c.self.invariant c.start.ensures.err

pub invariant_of-self-in-Begin : goal.invariant_of-self-in-Begin
invariant_of-self-in-Begin g c =
    right_on (g.K.Keeps.meaning c.self.inside.job.value) c.self.inside.table c.start.new.self c.self.invariant c.in_ok-start-in-Begin.ensures.values

pub invariant_of-self-in_err-note-in-Checkout : goal.invariant_of-self-in_err-note-in-Checkout
invariant_of-self-in_err-note-in-Checkout g c =
    right_same (g.K.Keeps.meaning c.self.inside.job.value) c.note.result _ c.self.inside.table c.note.new.self c.in_err-note-in-Checkout.was c.self.invariant c.note.ensures.err

pub invariant_of-self-in-Checkout : goal.invariant_of-self-in-Checkout
invariant_of-self-in-Checkout g c =
    right_on (g.K.Keeps.meaning c.self.inside.job.value) c.self.inside.table c.note.new.self c.self.invariant c.in_ok-note-in-Checkout.ensures.values
