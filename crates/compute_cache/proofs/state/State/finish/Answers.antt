use Rattle.std.proofs.Common.{◌≡◌, Some, sym, subst}
use Rattle.std.specs.Arc.{arc_value}
use Rattle.compute_cache.specs.State.{Plain}
use Rattle.compute_cache.proofs.Stated.{right_one}
use Rattle.compute_cache.proofs.state.State.finish.Goals as goal

pub invariant_of-self : goal.invariant_of-self
invariant_of-self g c =
    let meaning = g.K.Keeps.meaning in
    right_one (meaning c.self.inside.job.value) c.self.inside.table c.finish.new.self c.args.class c.args.key c.finish.result (arc_value c.args.value) c.self.invariant
    (subst (λ (s : Plain _ _). meaning s.job c.args.class c.args.key ≡ Some (arc_value c.args.value)) (sym c.self.view_is) c.requires.right) c.finish.ensures.values
