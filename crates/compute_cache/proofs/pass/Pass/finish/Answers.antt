use Rattle.std.proofs.Common.{ap, ◌∙◌, sym, subst, true}
use Rattle.std.specs.Prelude.{◌≡◌}
use Rattle.cache_core.specs.declared.entry.Act.TheVariants.{Finish}
use Rattle.compute_cache.specs.State.{entry_of}
use Rattle.compute_cache.specs.Passes.{CachePass, CalledAndEvicted, IsOfLock, has_turn, turns, without_turn}
use Rattle.compute_cache.specs.Kept.{pass_of}
use Rattle.compute_cache.proofs.Passing.{finish_from, turn_computes}
use Rattle.compute_cache.proofs.pass.Pass.finish.Goals as goal

pub finish-serial-requires-clause-turn : goal.finish-serial-requires-clause-turn
finish-serial-requires-clause-turn g c κs within =
    let p = c.self.inside in
    turn_computes p.base p.receipts c.args.class c.args.key c.self.invariant
    ∙ subst (λ (o : CachePass _). has_turn c.args.class c.args.key (turns o) ≡ true) (sym c.self.view_is) c.requires.turn

pub invariant_of-self : goal.invariant_of-self
invariant_of-self g c =
    let p = c.self.inside in
    let done = c.finish-serial.ensures.turned in
    (finish_from c.args.lock.now p.base c.finish-serial.new.pass p.receipts c.add.new.self done.0 c.args.class c.args.key c.finish-serial.result c.args.size c.self.invariant
    (subst (IsOfLock c.args.lock.now) (sym c.self.view_is) c.requires.own) done.1 done.2
    (subst (λ (o : CachePass _). has_turn c.args.class c.args.key (turns o) ≡ true) (sym c.self.view_is) c.requires.turn) c.add.ensures.holds c.add.ensures.owed).kept

pub returns-clause-called : goal.returns-clause-called
returns-clause-called g c =
    let p = c.self.inside in
    let done = c.finish-serial.ensures.turned in
    let new = pass_of c.finish-serial.new.pass c.add.new.self in (
      done.0,
      subst (λ (o : CachePass _). CalledAndEvicted c.args.lock.now.origin.cache.budget o new done.0 (entry_of o.number c.args.class c.args.key (Finish c.finish-serial.result c.args.size))) c.self.view_is
          (finish_from c.args.lock.now p.base c.finish-serial.new.pass p.receipts c.add.new.self done.0 c.args.class c.args.key c.finish-serial.result c.args.size c.self.invariant
          (subst (IsOfLock c.args.lock.now) (sym c.self.view_is) c.requires.own) done.1 done.2
          (subst (λ (o : CachePass _). has_turn c.args.class c.args.key (turns o) ≡ true) (sym c.self.view_is) c.requires.turn) c.add.ensures.holds c.add.ensures.owed).called,
      done.2,
    )

pub returns-clause-turns : goal.returns-clause-turns
returns-clause-turns g c =
    let p = c.self.inside in
    let done = c.finish-serial.ensures.turned in
    (finish_from c.args.lock.now p.base c.finish-serial.new.pass p.receipts c.add.new.self done.0 c.args.class c.args.key c.finish-serial.result c.args.size c.self.invariant
    (subst (IsOfLock c.args.lock.now) (sym c.self.view_is) c.requires.own) done.1 done.2
    (subst (λ (o : CachePass _). has_turn c.args.class c.args.key (turns o) ≡ true) (sym c.self.view_is) c.requires.turn) c.add.ensures.holds c.add.ensures.owed).turns_are
    ∙ ap (λ (o : CachePass _). without_turn c.args.class c.args.key (turns o)) c.self.view_is
