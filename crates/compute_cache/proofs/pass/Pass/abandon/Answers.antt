use Rattle.std.proofs.Common.{ap, ◌∙◌, sym, subst, true}
use Rattle.std.specs.Prelude.{◌≡◌}
use Rattle.compute_cache.specs.Passes.{CachePass, IsOfLock, has_turn, turns, without_turn}
use Rattle.compute_cache.proofs.Passing.{abandon_from, turn_computes}
use Rattle.compute_cache.proofs.pass.Pass.abandon.Goals as goal

pub abandon-requires-clause-turn : goal.abandon-requires-clause-turn
abandon-requires-clause-turn g c κs within =
    let p = c.self.inside in
    turn_computes p.base p.receipts c.args.class c.args.key c.self.invariant
    ∙ subst (λ (o : CachePass _). has_turn c.args.class c.args.key (turns o) ≡ true) (sym c.self.view_is) c.requires.turn

pub invariant_of-self : goal.invariant_of-self
invariant_of-self g c =
    let p = c.self.inside in
    let turned = c.abandon.ensures.turned in
    (abandon_from c.args.lock.now p.base c.abandon.new.pass p.receipts c.waive.new.self turned.0 c.args.class c.args.key c.self.invariant
    (subst (IsOfLock c.args.lock.now) (sym c.self.view_is) c.requires.own) turned.1
    (subst (λ (o : CachePass _). has_turn c.args.class c.args.key (turns o) ≡ true) (sym c.self.view_is) c.requires.turn) c.waive.ensures.holds c.waive.ensures.owed).kept

pub returns-clause-turns : goal.returns-clause-turns
returns-clause-turns g c =
    let p = c.self.inside in
    let turned = c.abandon.ensures.turned in
    (abandon_from c.args.lock.now p.base c.abandon.new.pass p.receipts c.waive.new.self turned.0 c.args.class c.args.key c.self.invariant
    (subst (IsOfLock c.args.lock.now) (sym c.self.view_is) c.requires.own) turned.1
    (subst (λ (o : CachePass _). has_turn c.args.class c.args.key (turns o) ≡ true) (sym c.self.view_is) c.requires.turn) c.waive.ensures.holds c.waive.ensures.owed).turns_are
    ∙ ap (λ (o : CachePass _). without_turn c.args.class c.args.key (turns o)) c.self.view_is
