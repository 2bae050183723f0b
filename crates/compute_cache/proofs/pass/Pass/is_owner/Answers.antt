use Rattle.std.proofs.Common.{ap, ◌∙◌, sym, subst, refl, arith}
use Rattle.compute_cache.specs.Passes.{CachePass, IsOfLock, has_turn, turns}
use Rattle.compute_cache.specs.Found.{Refused}
use Rattle.compute_cache.specs.Kept.{pass_of}
use Rattle.compute_cache.proofs.Passing.{idle_from, turn_computes}
use Rattle.compute_cache.proofs.pass.Pass.is_owner.Goals as goal

pub invariant_of-self : goal.invariant_of-self
invariant_of-self g c =
    let p = c.self.inside in
    let turned = c.is_owner.ensures.turned in
    (idle_from c.args.lock.now p.base c.is_owner.new.pass p.receipts p.receipts turned.0 c.self.invariant (subst (IsOfLock c.args.lock.now) (sym c.self.view_is) c.requires.own) turned.1 refl (omega arith)).kept

pub returns-clause-refused : goal.returns-clause-refused
returns-clause-refused g c =
    let p = c.self.inside in
    let turned = c.is_owner.ensures.turned in
    subst (λ (o : CachePass _). Refused c.args.lock.now.origin.cache.budget o (pass_of c.is_owner.new.pass p.receipts)) c.self.view_is
    (idle_from c.args.lock.now p.base c.is_owner.new.pass p.receipts p.receipts turned.0 c.self.invariant (subst (IsOfLock c.args.lock.now) (sym c.self.view_is) c.requires.own) turned.1 refl (omega arith)).refused

pub returns-clause-owner : goal.returns-clause-owner
returns-clause-owner g c =
    let p = c.self.inside in
    c.is_owner.ensures.owner ∙ turn_computes p.base p.receipts c.args.class c.args.key c.self.invariant
    ∙ ap (λ (o : CachePass _). has_turn c.args.class c.args.key (turns o)) c.self.view_is
