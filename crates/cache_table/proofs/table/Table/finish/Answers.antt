use Rattle.std.proofs.Common.{inl, inr, ◌≡◌, true, sym, ap, ◌∙◌, subst, append_assoc, ◌++◌, ◌∷◌, []}
use Rattle.std.specs.Arc.{arc_value}
use Rattle.cache_core.specs.Rows.{is_running}
use Rattle.cache_core.specs.Core.{is_in}
use Rattle.cache_core.specs.declared.entry.Entry.{Entry}
use Rattle.cache_core.specs.declared.entry.Act.TheVariants.{Finish}
use Rattle.cache_core.specs.declared.row.State.TheVariants.{Live}
use Rattle.cache_table.specs.Kept.{HasValue, touched_kept, with_value, rows_left}
use Rattle.cache_table.proofs.Keeping.{touched_at}
use Rattle.cache_table.specs.Cache.{state_at}
use Rattle.cache_table.proofs.Settling.{state_there, place_where, one_new_finish}
use Rattle.cache_table.proofs.table.Table.finish.Goals as goal

pub finish-serial-requires-clause-running : goal.finish-serial-requires-clause-running
finish-serial-requires-clause-running g c =
    let passes = subst (λ s. is_in (is_running c.args.pass) (state_at c.args.class c.args.key s) ≡ true) (sym c.self.view_is) c.requires in
    let there = place_where (is_running c.args.pass) c.args.class c.args.key c.self.inside.ledger.rows passes in
    there

pub returns-clause-values : goal.returns-clause-values
returns-clause-values g c = λ class key serial value h.
    let passes = subst (λ s. is_in (is_running c.args.pass) (state_at c.args.class c.args.key s) ≡ true) (sym c.self.view_is) c.requires in
    let there = place_where (is_running c.args.pass) c.args.class c.args.key c.self.inside.ledger.rows passes in
    elim (one_new_finish c.self.inside.ledger.rows c.finish-serial.new.self.rows c.args.class c.args.key c.finish-serial.result c.args.size c.args.pass there.0 (arc_value c.args.value) there.1
    (c.finish-serial.ensures.rows there.0 there.1) class key serial value (c.settle.ensures.values class key serial value h)) [
      | inl before ↦ inl (subst (λ s. HasValue class key serial value s.rows) c.self.view_is before)
      | inr new ↦ inr new
    ]

pub returns-clause-adds : goal.returns-clause-adds
returns-clause-adds g c =
    let passes = subst (λ s. is_in (is_running c.args.pass) (state_at c.args.class c.args.key s) ≡ true) (sym c.self.view_is) c.requires in
    let there = place_where (is_running c.args.pass) c.args.class c.args.key c.self.inside.ledger.rows passes in
    let made = c.finish-serial.ensures.adds in
    let evicts = c.settle.ensures.evicts in
    let item = state_there c.args.class c.args.key c.self.inside.ledger.rows there.0 there.1 in
    let change = with_value (Live c.finish-serial.result c.args.size (c.args.pass ∷ [])) (arc_value c.args.value) in
    let entry : Entry = record { pass = c.args.pass; class = c.args.class; key = c.args.key; act = Finish c.finish-serial.result c.args.size } in
    record {
      budget = c.settle.ensures.budget ∙ made.budget ∙ ap (λ s. s.budget) c.self.view_is;
      evicts = evicts.0;
      history = evicts.2 ∙ ap (λ l. l ++ evicts.0) made.history ∙ append_assoc c.self.inside.ledger.history (entry ∷ []) evicts.0 ∙ ap (λ s. s.history ++ entry ∷ evicts.0) c.self.view_is;
      each = evicts.1;
      rows = evicts.3 ∙ ap (rows_left evicts.0) ((c.finish-serial.ensures.rows there.0 there.1) ∙ touched_at c.args.class c.args.key change c.self.inside.ledger.rows there.0 item.0 item.1 ∙ ap (λ s. touched_kept c.args.class c.args.key change s.rows) c.self.view_is);
    }
