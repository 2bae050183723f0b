use Rattle.std.proofs.Common.{sym, ◌∙◌}
use Rattle.cache_core.specs.Rows.{is_named}
use Rattle.cache_core.proofs.Firsts.{place_from_position, none_from_position}
use Rattle.cache_core.proofs.change.take_out.Goals as goal

pub returns-in-Some : goal.returns-in-Some
returns-in-Some c =
    let place = place_from_position (is_named c.args.class c.args.key) c.args.rows.now.items c.in-Some.place (cc) in
    c.remove.ensures.items ∙ sym place.rest

pub returns-in_default : goal.returns-in_default
returns-in_default c = sym (none_from_position (is_named c.args.class c.args.key) c.args.rows.now.items (cc)).1
