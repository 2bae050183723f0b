use Rattle.std.proofs.Common.{ap, ◌∙◌, sym}
use Rattle.compute_cache.specs.Passes.{CachePass, turns}
use Rattle.compute_cache.proofs.Opening.{joined_kept, joined_turns, clear_pass}
use Rattle.compute_cache.proofs.cache.Cache.join.Goals as goal

pub join-requires-clause-other_clear : goal.join-requires-clause-other_clear
join-requires-clause-other_clear g c =
    clear_pass c.other.inside.base c.other.inside.receipts c.other.invariant
    (ap (λ (p : CachePass _). turns p) c.other.view_is ∙ c.requires.other_clear.turns_are) (ap (λ (p : CachePass _). p.receipts) c.other.view_is ∙ c.requires.other_clear.receipts)

pub invariant_of-pass : goal.invariant_of-pass
invariant_of-pass g c =
    joined_kept c.pass.inside.base c.other.inside.base c.join.new.pass c.pass.inside.receipts c.other.inside.receipts c.pass.invariant c.other.invariant
    (ap (λ (p : CachePass _). p.origin) c.pass.view_is ∙ c.requires.own.from ∙ sym c.requires.other_own.from ∙ sym (ap (λ (p : CachePass _). p.origin) c.other.view_is))
    c.join.ensures.pass c.join.ensures.begins c.join.ensures.own

pub returns-clause-turns : goal.returns-clause-turns
returns-clause-turns g c =
    joined_turns c.pass.inside.base c.other.inside.base c.join.new.pass c.pass.inside.receipts c.pass.invariant c.join.ensures.pass c.join.ensures.begins c.join.ensures.own
    ∙ ap (λ (p : CachePass _). turns p) c.pass.view_is
