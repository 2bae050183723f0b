use Rattle.std.proofs.Common.{◌∙◌, sym, ap, subst, ◌++◌, ◌∷◌, [], append_assoc}
use Rattle.cache_core.proofs.Serials.{all-push}
use Rattle.cache_table.specs.Kept.{HasValue, without_kept}
use Rattle.cache_table.specs.Cache.{IsEvictBy}
use Rattle.cache_table.proofs.Values.{has-remove}
use Rattle.cache_table.proofs.Owning.{left-more}
use Rattle.cache_table.proofs.table.settle.Goals as goal

pub evicting-preserved : goal.evicting-preserved
evicting-preserved g c =
    let before = c.evicting.invariant in
    let adds = c.evict.ensures.adds c.evicting-test.true in
    let out = c.evict.ensures.rows c.evicting-test.true in (
      adds.2.budget ∙ before.0,
      (
        before.1.0 ++ adds.0 ∷ [],
        all-push (IsEvictBy c.args.pass) before.1.0 adds.0 before.1.1 adds.1,
        adds.2.history ∙ ap (λ l. l ++ adds.0 ∷ []) before.1.2 ∙ append_assoc c.args.ledger.now.history before.1.0 (adds.0 ∷ []),
        adds.3 ∙ ap (without_kept adds.0.class adds.0.key) before.1.3 ∙ sym (left-more before.1.0 adds.0 c.args.ledger.now.rows),
      ),
      λ class key serial value h. before.2 class key serial value (has-remove class key serial value c.evicting.ledger.rows out.0 (subst (HasValue class key serial value) out.2 h)),
      c.evict.ensures.kept,
    )

pub returns-clause-values : goal.returns-clause-values
returns-clause-values g c = λ class key serial value h.
    c.evicting.invariant.2 class key serial value (subst (λ s. HasValue class key serial value s.rows) (c.evict.ensures.same c.evicting-test.false) h)
