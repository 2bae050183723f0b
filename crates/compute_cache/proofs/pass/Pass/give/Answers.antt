use Rattle.std.proofs.Common.{ap, ◌∙◌, sym, subst, true}
use Rattle.std.specs.Prelude.{◌≡◌}
use Rattle.cache_core.specs.declared.entry.Act.TheVariants.{Give}
use Rattle.compute_cache.specs.State.{entry_of}
use Rattle.compute_cache.specs.Passes.{CachePass, CalledAndEvicted, IsOfLock, is_held, turns}
use Rattle.compute_cache.specs.Kept.{pass_of}
use Rattle.compute_cache.proofs.Passing.{give_from, hold_open}
use Rattle.compute_cache.proofs.pass.Pass.give.Goals as goal

pub give-requires-clause-held : goal.give-requires-clause-held
give-requires-clause-held g c κs within =
    let p = c.self.inside in
    hold_open p.base p.receipts c.args.hold c.self.invariant
    (subst (λ (o : CachePass _). is_held c.args.hold o.receipts ≡ true) (sym c.self.view_is) c.requires.held)

pub invariant_of-self : goal.invariant_of-self
invariant_of-self g c =
    let p = c.self.inside in
    let done = c.give.ensures.turned in
    (give_from c.args.lock.now p.base c.give.new.pass p.receipts c.remove.new.self done.0 c.args.hold c.self.invariant
    (subst (IsOfLock c.args.lock.now) (sym c.self.view_is) c.requires.own) done.1
    (subst (λ (o : CachePass _). is_held c.args.hold o.receipts ≡ true) (sym c.self.view_is) c.requires.held) c.remove.ensures.holds c.remove.ensures.owed).kept

pub returns-clause-called : goal.returns-clause-called
returns-clause-called g c =
    let p = c.self.inside in
    let done = c.give.ensures.turned in
    let new = pass_of c.give.new.pass c.remove.new.self in (
      done.0,
      subst (λ (o : CachePass _). CalledAndEvicted c.args.lock.now.origin.cache.budget o new done.0 (entry_of o.number c.args.hold.class c.args.hold.key (Give c.args.hold.serial))) c.self.view_is
          (give_from c.args.lock.now p.base c.give.new.pass p.receipts c.remove.new.self done.0 c.args.hold c.self.invariant
          (subst (IsOfLock c.args.lock.now) (sym c.self.view_is) c.requires.own) done.1
          (subst (λ (o : CachePass _). is_held c.args.hold o.receipts ≡ true) (sym c.self.view_is) c.requires.held) c.remove.ensures.holds c.remove.ensures.owed).called,
    )

pub returns-clause-turns : goal.returns-clause-turns
returns-clause-turns g c =
    let p = c.self.inside in
    let done = c.give.ensures.turned in
    (give_from c.args.lock.now p.base c.give.new.pass p.receipts c.remove.new.self done.0 c.args.hold c.self.invariant
    (subst (IsOfLock c.args.lock.now) (sym c.self.view_is) c.requires.own) done.1
    (subst (λ (o : CachePass _). is_held c.args.hold o.receipts ≡ true) (sym c.self.view_is) c.requires.held) c.remove.ensures.holds c.remove.ensures.owed).turns_are
    ∙ ap (λ (o : CachePass _). turns o) c.self.view_is
