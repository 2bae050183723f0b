use Rattle.std.proofs.Common.{◌≡◌, true, sym, ◌∙◌, ap, subst}
use Rattle.cache_core.specs.Rows.{is_running}
use Rattle.cache_core.specs.Core.{is_in, is_settled}
use Rattle.cache_table.specs.Kept.{HasValue, without_kept}
use Rattle.cache_table.proofs.Keeping.{without_at}
use Rattle.cache_table.specs.Cache.{core_of, state_at}
use Rattle.cache_table.proofs.Values.{has-remove}
use Rattle.cache_table.proofs.Settling.{place_where, test_there, settled_abandon}
use Rattle.cache_table.proofs.table.Table.abandon.Goals as goal

pub abandon-requires-clause-running : goal.abandon-requires-clause-running
abandon-requires-clause-running g c =
    let passes = subst (λ s. is_in (is_running c.args.pass) (state_at c.args.class c.args.key s) ≡ true) (sym c.self.view_is) c.requires in
    let there = place_where (is_running c.args.pass) c.args.class c.args.key c.self.inside.ledger.rows passes in
    there

pub invariant_of-self : goal.invariant_of-self
invariant_of-self g c =
    let passes = subst (λ s. is_in (is_running c.args.pass) (state_at c.args.class c.args.key s) ≡ true) (sym c.self.view_is) c.requires in
    let there = place_where (is_running c.args.pass) c.args.class c.args.key c.self.inside.ledger.rows passes in
    let old = c.self.inside.ledger in (
      c.abandon.ensures.kept,
      ap (λ b. is_settled b (core_of c.abandon.new.self).rows) c.abandon.ensures.adds.budget
          ∙ settled_abandon old.budget old.rows c.abandon.new.self.rows c.args.pass c.args.class c.args.key there.0 c.self.invariant.1 there.1
          (test_there (is_running c.args.pass) c.args.class c.args.key old.rows there.0 there.1 passes) (c.abandon.ensures.rows there.0 there.1),
    )

pub returns-clause-values : goal.returns-clause-values
returns-clause-values g c = λ class key serial value h.
    let passes = subst (λ s. is_in (is_running c.args.pass) (state_at c.args.class c.args.key s) ≡ true) (sym c.self.view_is) c.requires in
    let there = place_where (is_running c.args.pass) c.args.class c.args.key c.self.inside.ledger.rows passes in
    subst (λ s. HasValue class key serial value s.rows) c.self.view_is
    (has-remove class key serial value c.self.inside.ledger.rows there.0 (subst (HasValue class key serial value) (c.abandon.ensures.rows there.0 there.1) h))

pub returns-clause-settled : goal.returns-clause-settled
returns-clause-settled g c = (invariant_of-self g c).1

pub returns-clause-rows : goal.returns-clause-rows
returns-clause-rows g c =
    let passes = subst (λ s. is_in (is_running c.args.pass) (state_at c.args.class c.args.key s) ≡ true) (sym c.self.view_is) c.requires in
    let there = place_where (is_running c.args.pass) c.args.class c.args.key c.self.inside.ledger.rows passes in
    (c.abandon.ensures.rows there.0 there.1) ∙ without_at c.args.class c.args.key c.self.inside.ledger.rows there.0 there.1
    ∙ ap (λ s. without_kept c.args.class c.args.key s.rows) c.self.view_is
