use Rattle.std.proofs.Common.{◌≡◌, true, sym, ap, ◌∙◌, subst}
use Rattle.std.specs.Arc.{arc_value}
use Rattle.cache_core.specs.Core.{is_in}
use Rattle.cache_core.specs.declared.entry.Act.TheVariants.{Hit}
use Rattle.std.specs.Prelude.{IfOk, OnOk}
use Rattle.cache_table.specs.Kept.{HasValue}
use Rattle.cache_table.specs.Cache.{state_at, is_any_live, HasNoNewValue}
use Rattle.cache_table.proofs.Settling.{place_where, test_there, take_settled, no_new_take, taken_has}
use Rattle.cache_table.specs.Kept.{touched_kept, with_state}
use Rattle.cache_core.specs.Rows.{held_by}
use Rattle.cache_table.proofs.Keeping.{touched_at}
use Rattle.cache_table.proofs.Settling.{state_there, on_ok_map}
use Rattle.cache_table.proofs.Owning.{held-after_take}
use Rattle.cache_table.proofs.table.Table.take.Goals as goal

pub take-requires-clause-live : goal.take-requires-clause-live
take-requires-clause-live g c =
    let passes = subst (λ s. is_in is_any_live (state_at c.args.class c.args.key s) ≡ true) (sym c.self.view_is) c.requires in
    let there = place_where is_any_live c.args.class c.args.key c.self.inside.ledger.rows passes in
    there

pub invariant_of-self : goal.invariant_of-self
invariant_of-self g c =
    let passes = subst (λ s. is_in is_any_live (state_at c.args.class c.args.key s) ≡ true) (sym c.self.view_is) c.requires in
    let there = place_where is_any_live c.args.class c.args.key c.self.inside.ledger.rows passes in (
      c.take.ensures.kept,
      take_settled c.take.result c.self.inside.ledger c.take.new.self c.args.pass c.args.class c.args.key there.0
          (λ taken. record { pass = c.args.pass; class = c.args.class; key = c.args.key; act = Hit taken.0 }) c.self.invariant.1 there.1
          (test_there is_any_live c.args.class c.args.key c.self.inside.ledger.rows there.0 there.1 passes) c.take.ensures.adds (c.take.ensures.rows there.0 there.1) c.take.ensures.err,
    )

pub returns-clause-value : goal.returns-clause-value
returns-clause-value g c =
    let passes = subst (λ s. is_in is_any_live (state_at c.args.class c.args.key s) ≡ true) (sym c.self.view_is) c.requires in
    let there = place_where is_any_live c.args.class c.args.key c.self.inside.ledger.rows passes in
    subst (λ s. IfOk c.take.result (λ taken. HasValue c.args.class c.args.key taken.0 (arc_value taken.1) s.rows)) c.self.view_is
    (taken_has c.take.result arc_value c.args.class c.args.key c.self.inside.ledger.rows there.0 there.1 (c.take.ensures.value there.0 there.1))

pub returns-clause-values : goal.returns-clause-values
returns-clause-values g c =
    let passes = subst (λ s. is_in is_any_live (state_at c.args.class c.args.key s) ≡ true) (sym c.self.view_is) c.requires in
    let there = place_where is_any_live c.args.class c.args.key c.self.inside.ledger.rows passes in
    subst (λ s. OnOk c.take.result (HasNoNewValue s c.take.new.self)) c.self.view_is
    (no_new_take c.take.result c.self.inside.ledger c.take.new.self c.args.pass there.0 (c.take.ensures.rows there.0 there.1))

pub returns-clause-settled : goal.returns-clause-settled
returns-clause-settled g c = (invariant_of-self g c).1

pub returns-clause-rows : goal.returns-clause-rows
returns-clause-rows g c =
    let passes = subst (λ s. is_in is_any_live (state_at c.args.class c.args.key s) ≡ true) (sym c.self.view_is) c.requires in
    let there = place_where is_any_live c.args.class c.args.key c.self.inside.ledger.rows passes in
    let old = c.self.inside.ledger in
    let item = state_there c.args.class c.args.key old.rows there.0 there.1 in
    let change = with_state (held_by c.args.pass) in
    on_ok_map c.take.result (c.take.ensures.rows there.0 there.1) (λ made. made ∙ touched_at c.args.class c.args.key change old.rows there.0 item.0 item.1 ∙ ap (λ s. touched_kept c.args.class c.args.key change s.rows) c.self.view_is)

pub returns-clause-holds : goal.returns-clause-holds
returns-clause-holds g c =
    let passes = subst (λ s. is_in is_any_live (state_at c.args.class c.args.key s) ≡ true) (sym c.self.view_is) c.requires in
    let there = place_where is_any_live c.args.class c.args.key c.self.inside.ledger.rows passes in
    held-after_take c.take.result c.self.inside.ledger c.take.new.self.rows c.args.pass c.args.class c.args.key there.0 c.self.invariant.0 there.1
    (test_there is_any_live c.args.class c.args.key c.self.inside.ledger.rows there.0 there.1 passes) (c.take.ensures.rows there.0 there.1)
