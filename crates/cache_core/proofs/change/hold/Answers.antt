use Rattle.std.proofs.Common.{◌≡◌}
use Rattle.std.specs.Prelude.{Some, position}
use Rattle.cache_core.specs.Rows.{is_named}
use Rattle.cache_core.proofs.Touching.{touched_from, touched-none}
use Rattle.cache_core.proofs.change.hold.Goals as goal

pub returns-in_ok-hold-clause-ok : goal.returns-in_ok-hold-clause-ok
returns-in_ok-hold-clause-ok c =
    let at : position (is_named c.args.entry.now.class c.args.entry.now.key) c.args.rows.now.items ≡ Some c.in-Some.place = cc in
    touched_from _ _ _ c.args.rows.now.items _ _ _ _ _ at c.index_mut.ensures.value c.in_ok-hold.ensures.ok c.move_last.ensures

pub returns-in_default-clause-ok : goal.returns-in_default-clause-ok
returns-in_default-clause-ok c = touched-none _ _ _ _ (cc)
