use Rattle.std.proofs.Common.{◌≡◌, sym, subst}
use Rattle.std.specs.Prelude.{None}
use Rattle.cache_table.specs.Kept.{HasValue}
use Rattle.cache_table.specs.Cache.{state_at}
use Rattle.cache_table.proofs.Settling.{absent_from, start_settled, no_new_start, on_ok_map}
use Rattle.cache_table.proofs.Owning.{owned-after_start}
use Rattle.cache_table.proofs.table.Table.start.Goals as goal

pub start-requires-clause-absent : goal.start-requires-clause-absent
start-requires-clause-absent g c =
    absent_from c.args.class c.args.key c.self.inside.ledger.rows (subst (λ s. state_at c.args.class c.args.key s ≡ None) (sym c.self.view_is) c.requires)

pub invariant_of-self : goal.invariant_of-self
invariant_of-self g c =
    (c.start.ensures.kept, start_settled c.start.result c.self.inside.ledger c.start.new.self c.args.pass c.args.class c.args.key _ c.self.invariant.1 c.start.ensures.adds c.start.ensures.rows c.start.ensures.err)

pub returns-clause-values : goal.returns-clause-values
returns-clause-values g c = on_ok_map c.start.result c.start.ensures.rows (λ made. λ class key serial value h.
    subst (λ s. HasValue class key serial value s.rows) c.self.view_is
    (no_new_start c.self.inside.ledger c.start.new.self c.args.pass c.args.class c.args.key made class key serial value h))

pub returns-clause-settled : goal.returns-clause-settled
returns-clause-settled g c = (invariant_of-self g c).1

pub returns-clause-owns : goal.returns-clause-owns
returns-clause-owns g c =
    owned-after_start c.start.result c.self.inside.ledger.rows c.start.new.self.rows c.args.pass c.args.class c.args.key (absent_from c.args.class c.args.key c.self.inside.ledger.rows (subst (λ s. state_at c.args.class c.args.key s ≡ None) (sym c.self.view_is) c.requires)) c.start.ensures.rows
