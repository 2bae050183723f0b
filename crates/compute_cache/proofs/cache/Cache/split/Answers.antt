use Rattle.std.proofs.Common.{ap, ◌∙◌, sym, subst}
use Rattle.turn_lock.specs.Lock.{Pass}
use Rattle.compute_cache.specs.Turned.{IsSettledHistory}
use Rattle.compute_cache.specs.Passes.{CachePass}
use Rattle.compute_cache.proofs.TurnsOf.{turns-quiet}
use Rattle.compute_cache.proofs.Opening.{fresh_kept}
use Rattle.compute_cache.proofs.cache.Cache.split.Goals as goal

pub invariant_of-result : goal.invariant_of-result
invariant_of-result g c =
    let base = c.in_ok-base.base in
    let made = c.in_ok-base.ensures.made in
    fresh_kept base c.new.result (ap (λ (p : Pass _). p.taken) made) c.in_ok-base.ensures.fresh (ap (λ (p : Pass _). p.mine) made)
    (λ origin is. subst (IsSettledHistory origin.cache.budget) (sym (ap (λ (p : Pass _). p.seen) made)) (c.pass.invariant.settled origin (sym (ap (λ (p : Pass _). p.origin) made) ∙ is)))
    c.new.ensures.holds

pub returns-clause-new : goal.returns-clause-new
returns-clause-new g c =
    let base = c.in_ok-base.base in
    let made = c.in_ok-base.ensures.made in
    record {
      number = ap (λ (p : Pass _). p.number) made ∙ ap (λ (p : CachePass _). p.made) c.pass.view_is;
      seen = ap (λ (p : Pass _). p.seen) made ∙ ap (λ (p : CachePass _). p.seen) c.pass.view_is;
      mine = ap (λ (p : Pass _). p.mine) made;
      receipts = c.new.ensures.holds;
      turns_are = turns-quiet base.number 0 _ base.seen c.in_ok-base.ensures.fresh;
      fresh = c.in_ok-base.ensures.fresh;
    }
