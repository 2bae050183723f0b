use Rattle.cache_core.specs.declared.entry.Entry.{Entry}
use Rattle.std.proofs.Common.{append_assoc, ◌≡◌, true, sym, ◌∙◌, ap, subst, ◌++◌, ◌∷◌, []}
use Rattle.cache_core.specs.Rows.{is_held_by, is_live, released_by}
use Rattle.cache_core.specs.Core.{is_in}
use Rattle.cache_core.specs.declared.entry.Act.TheVariants.{Give}
use Rattle.cache_table.specs.Kept.{HasValue, touched_kept, with_state, rows_left}
use Rattle.cache_table.proofs.Keeping.{touched_at}
use Rattle.cache_table.specs.Cache.{state_at}
use Rattle.cache_table.proofs.Values.{has-released}
use Rattle.cache_table.proofs.Settling.{state_there, place_where}
use Rattle.cache_table.proofs.table.Table.give.Goals as goal

pub give-requires-clause-held : goal.give-requires-clause-held
give-requires-clause-held g c =
    let passes = subst (λ s. is_in (is_held_by c.args.pass) (state_at c.args.class c.args.key s) ≡ true) (sym c.self.view_is) c.requires in
    let there = place_where (is_held_by c.args.pass) c.args.class c.args.key c.self.inside.ledger.rows passes in
    there

pub returns-clause-adds : goal.returns-clause-adds
returns-clause-adds g c =
    let passes = subst (λ s. is_in (is_held_by c.args.pass) (state_at c.args.class c.args.key s) ≡ true) (sym c.self.view_is) c.requires in
    let there = place_where (is_held_by c.args.pass) c.args.class c.args.key c.self.inside.ledger.rows passes in
    let given = c.give.ensures.adds in
    let item = state_there c.args.class c.args.key c.self.inside.ledger.rows there.0 there.1 in
    let change = with_state (released_by c.args.pass) in
    let evicts = c.settle.ensures.evicts in
    let entry : Entry = record { pass = c.args.pass; class = c.args.class; key = c.args.key; act = Give given.0 } in (
      given.0,
      subst (λ s. is_in (is_live given.0) (state_at c.args.class c.args.key s) ≡ true) c.self.view_is
          given.1,
      record {
        budget = c.settle.ensures.budget ∙ given.2.budget ∙ ap (λ s. s.budget) c.self.view_is;
        evicts = evicts.0;
        history = evicts.2 ∙ ap (λ l. l ++ evicts.0) given.2.history ∙ append_assoc c.self.inside.ledger.history (entry ∷ []) evicts.0 ∙ ap (λ s. s.history ++ entry ∷ evicts.0) c.self.view_is;
        each = evicts.1;
        rows = evicts.3 ∙ ap (rows_left evicts.0) ((c.give.ensures.rows there.0 there.1) ∙ touched_at c.args.class c.args.key change c.self.inside.ledger.rows there.0 item.0 item.1 ∙ ap (λ s. touched_kept c.args.class c.args.key change s.rows) c.self.view_is);
      },
    )

pub returns-clause-values : goal.returns-clause-values
returns-clause-values g c = λ class key serial value h.
    let passes = subst (λ s. is_in (is_held_by c.args.pass) (state_at c.args.class c.args.key s) ≡ true) (sym c.self.view_is) c.requires in
    let there = place_where (is_held_by c.args.pass) c.args.class c.args.key c.self.inside.ledger.rows passes in
    subst (λ s. HasValue class key serial value s.rows) c.self.view_is
    (has-released class key serial value c.args.pass c.self.inside.ledger.rows c.give.new.self.rows there.0 (c.give.ensures.rows there.0 there.1) (c.settle.ensures.values class key serial value h))
