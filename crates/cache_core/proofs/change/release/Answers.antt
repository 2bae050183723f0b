use Rattle.std.proofs.Common.{◌≡◌}
use Rattle.std.specs.Prelude.{Some, position}
use Rattle.cache_core.specs.Rows.{is_named}
use Rattle.cache_core.proofs.Touching.{touched_from, touched-none}
use Rattle.cache_core.proofs.change.release.Goals as goal

pub returns-in-Some : goal.returns-in-Some
returns-in-Some c =
    let at : position (is_named c.args.entry.now.class c.args.entry.now.key) c.args.rows.now.items ≡ Some c.in-Some.place = cc in
    touched_from _ _ _ c.args.rows.now.items _ _ _ _ _ at c.index_mut.ensures.value c.release.ensures c.move_last.ensures

pub returns-in_default : goal.returns-in_default
returns-in_default c = touched-none _ _ _ _ (cc)
