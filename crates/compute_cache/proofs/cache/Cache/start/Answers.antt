use Rattle.std.proofs.Common.{ap, sym, subst}
use Rattle.std.specs.Prelude.{◌≡◌, []}
use Rattle.turn_lock.specs.Entries.{entries_of}
use Rattle.turn_lock.specs.Lock.{Pass}
use Rattle.compute_cache.specs.Turned.{IsSettledHistory}
use Rattle.compute_cache.proofs.Opening.{fresh_kept, none_settled}
use Rattle.compute_cache.proofs.cache.Cache.start.Goals as goal

pub invariant_of-pass : goal.invariant_of-pass
invariant_of-pass g c =
    let base = c.in_ok-lock.base in
    let opened = c.in_ok-lock.ensures.opening in
    let seen : base.seen ≡ [] = ap (λ (p : Pass _). p.seen) opened in
    fresh_kept base c.new-3.result (ap (λ (p : Pass _). p.taken) opened) (ap (entries_of base.number) seen) (ap (λ (p : Pass _). p.mine) opened)
    (λ origin is. subst (IsSettledHistory origin.cache.budget) (sym seen) (none_settled origin.cache.budget)) c.new-3.ensures.holds
