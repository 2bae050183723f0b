use Rattle.std.proofs.Common.{◌≡◌, ℕ, List, take, ap, ◌∙◌, sym, subst, true, false}
use Rattle.std.specs.List.{AllByRecursion}
use Rattle.cache_core.specs.Core.{Core}
use Rattle.cache_core.specs.Rows.{is_idle, AreDistinct}
use Rattle.cache_core.specs.Laws.{Leaves}
use Rattle.cache_core.specs.declared.entry.Entry.{Entry}
use Rattle.compute_cache.specs.Passes.{CachePass, turns}
use Rattle.compute_cache.specs.Suite.{Suite}
use Rattle.std.specs.Set.{distinct_count}
use Rattle.cache_laws.specs.Computations.{takes_out, starts_of, same_name, used_names}
use Rattle.cache_laws.proofs.Counting.{computations_are_counted}
use Rattle.cache_laws.proofs.Single.{single_flight}
use Rattle.compute_cache.proofs.Opening.{closed_idle, clear_pass}
use Rattle.compute_cache.proofs.cache.Cache.close.Goals as goal

pub close-requires-clause-clear : goal.close-requires-clause-clear
close-requires-clause-clear g c =
    clear_pass c.pass.inside.base c.pass.inside.receipts c.pass.invariant
    (ap (λ (p : CachePass _). turns p) c.pass.view_is ∙ c.requires.clear.turns_are) (ap (λ (p : CachePass _). p.receipts) c.pass.view_is ∙ c.requires.clear.receipts)

pub returns-clause-idle : goal.returns-clause-idle
returns-clause-idle g c =
    let budget = c.self.inside.lock.origin.cache.budget in
    let history = c.close.result.cache.history in
    subst (λ b. (core : Core) × Leaves b c.into_history.result.items core × AllByRecursion (λ row. is_idle row.state ≡ true) core.rows) (ap (λ (s : Suite _). s.lock.origin.cache.budget) c.self.view_is)
    (subst (λ (h : List Entry). (core : Core) × Leaves budget h core × AllByRecursion (λ row. is_idle row.state ≡ true) core.rows) (sym c.into_history.ensures) (closed_idle budget history c.close.ensures.legal c.close.ensures.clear))

pub returns-clause-counted : goal.returns-clause-counted
returns-clause-counted g c =
    let history = c.close.result.cache.history in
    let budget = c.self.inside.lock.origin.cache.budget in
    let left = closed_idle budget history c.close.ensures.legal c.close.ensures.clear in
    subst (λ (h : List Entry). AllByRecursion (λ entry. takes_out entry.act ≡ false) h → starts_of h ≡ distinct_count same_name (used_names h)) (sym c.into_history.ensures)
    (computations_are_counted budget history left.0 left.1)

pub returns-clause-single : goal.returns-clause-single
returns-clause-single g c =
    let budget = c.self.inside.lock.origin.cache.budget in
    let history = c.close.result.cache.history in
    subst (λ b. (n : ℕ) → (core : Core) × Leaves b (take n c.into_history.result.items) core × AreDistinct core.rows) (ap (λ (s : Suite _). s.lock.origin.cache.budget) c.self.view_is)
    (subst (λ (h : List Entry). (n : ℕ) → (core : Core) × Leaves budget (take n h) core × AreDistinct core.rows) (sym c.into_history.ensures) (single_flight budget history c.close.ensures.legal))
