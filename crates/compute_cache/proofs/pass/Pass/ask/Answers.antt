use Rattle.std.proofs.Common.{ap, ◌∙◌, sym, subst, false, arith}
use Rattle.std.specs.Prelude.{◌≡◌, ◌++◌}
use Rattle.compute_cache.specs.Passes.{CachePass, IsOfLock, has_turn, turns}
use Rattle.compute_cache.specs.Found.{Refused, FoundAt, holds_by}
use Rattle.compute_cache.specs.Kept.{pass_of}
use Rattle.compute_cache.proofs.Passing.{idle_from, found_from, refused_none, turn_computes}
use Rattle.compute_cache.proofs.pass.Pass.ask.Goals as goal

pub ask-asked-requires-clause-other : goal.ask-asked-requires-clause-other
ask-asked-requires-clause-other g c κs within =
    let p = c.self.inside in
    turn_computes p.base p.receipts c.args.class c.args.key c.self.invariant
    ∙ subst (λ (o : CachePass _). has_turn c.args.class c.args.key (turns o) ≡ false) (sym c.self.view_is) c.requires.other

pub returns-in-Err-clause-found : goal.returns-in-Err-clause-found
returns-in-Err-clause-found g c =
    let p = c.self.inside in
    subst (λ (o : CachePass _). Refused c.args.lock.now.origin.cache.budget o (pass_of p.base c.owe.new.self)) c.self.view_is
    (refused_none c.args.lock.now p.base p.receipts c.owe.new.self c.self.invariant (subst (IsOfLock c.args.lock.now) (sym c.self.view_is) c.requires.own) c.in-Err.ensures.err)

pub invariant_of-self-in-Err-asked : goal.invariant_of-self-in-Err-asked
invariant_of-self-in-Err-asked g c =
    let p = c.self.inside in
    let turned = c.in-Err-asked.ensures in
    (idle_from c.args.lock.now p.base c.ask-asked.new.pass p.receipts c.waive.new.self turned.0 c.self.invariant (subst (IsOfLock c.args.lock.now) (sym c.self.view_is) c.requires.own) turned.1
    (c.waive.ensures.holds ∙ c.owe.ensures.holds) (omega (arith, c.waive.ensures.owed, c.in_default.ensures.owed))).kept

pub returns-in-Err-asked-clause-found : goal.returns-in-Err-asked-clause-found
returns-in-Err-asked-clause-found g c =
    let p = c.self.inside in
    let turned = c.in-Err-asked.ensures in
    subst (λ (o : CachePass _). Refused c.args.lock.now.origin.cache.budget o (pass_of c.ask-asked.new.pass c.waive.new.self)) c.self.view_is
    (idle_from c.args.lock.now p.base c.ask-asked.new.pass p.receipts c.waive.new.self turned.0 c.self.invariant (subst (IsOfLock c.args.lock.now) (sym c.self.view_is) c.requires.own) turned.1
    (c.waive.ensures.holds ∙ c.owe.ensures.holds) (omega (arith, c.waive.ensures.owed, c.in_default.ensures.owed))).refused

pub invariant_of-self-2 : goal.invariant_of-self-2
invariant_of-self-2 g c =
    let p = c.self.inside in
    (found_from c.args.lock.now (g.K.Keeps.meaning c.args.lock.now.origin.job) c.args.call c.args.wait c.args.class c.args.key c.in-Ok.asked.0 c.in-Ok.asked.1
    p.base c.ask-asked.new.pass p.receipts c.note.new.self c.self.invariant (subst (IsOfLock c.args.lock.now) (sym c.self.view_is) c.requires.own) c.in-Ok.ensures
    (c.note.ensures.holds ∙ ap (λ hs. hs ++ holds_by c.in-Ok.asked.0 c.args.class c.args.key c.in-Ok.asked.1) c.owe.ensures.holds) (omega (arith, c.note.ensures.owed, c.in_default.ensures.owed))).kept

pub returns-clause-found : goal.returns-clause-found
returns-clause-found g c =
    let p = c.self.inside in
    subst (λ (o : CachePass _). FoundAt (g.K.Keeps.meaning c.args.lock.now.origin.job) c.args.lock.now.origin.cache.budget c.args.call c.args.wait c.args.class c.args.key o
    (pass_of c.ask-asked.new.pass c.note.new.self) c.in-Ok.asked.0 c.in-Ok.asked.1) c.self.view_is
    (found_from c.args.lock.now (g.K.Keeps.meaning c.args.lock.now.origin.job) c.args.call c.args.wait c.args.class c.args.key c.in-Ok.asked.0 c.in-Ok.asked.1
    p.base c.ask-asked.new.pass p.receipts c.note.new.self c.self.invariant (subst (IsOfLock c.args.lock.now) (sym c.self.view_is) c.requires.own) c.in-Ok.ensures
    (c.note.ensures.holds ∙ ap (λ hs. hs ++ holds_by c.in-Ok.asked.0 c.args.class c.args.key c.in-Ok.asked.1) c.owe.ensures.holds) (omega (arith, c.note.ensures.owed, c.in_default.ensures.owed))).finds
