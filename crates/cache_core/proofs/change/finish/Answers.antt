use Rattle.std.proofs.Common.{◌≡◌, ◌∷◌, [], ap, arith}
use Rattle.cache_core.specs.declared.row.State.TheVariants.{Live}
use Rattle.std.specs.Prelude.{Some, position}
use Rattle.cache_core.specs.Rows.{is_named}
use Rattle.cache_core.proofs.Touching.{touched_from, touched-none}
use Rattle.cache_core.proofs.change.finish.Goals as goal

pub returns-in-Some-clause-ok : goal.returns-in-Some-clause-ok
returns-in-Some-clause-ok c =
    let held : c.add.new.self ≡ c.args.entry.now.pass ∷ [] = grind (arith, c.in_ok-add.ensures.ok, c.new-holders.ensures) in
    let at : position (is_named c.args.entry.now.class c.args.entry.now.key) c.args.rows.now.items ≡ Some c.in-Some.place = cc in
    touched_from _ _ _ c.args.rows.now.items _ _ _ _ _ at c.index_mut.ensures.value
    (ap (Live c.args.serial c.args.size) held) c.move_last.ensures

pub returns-in_default-clause-ok : goal.returns-in_default-clause-ok
returns-in_default-clause-ok c = touched-none _ _ _ _ (cc)
