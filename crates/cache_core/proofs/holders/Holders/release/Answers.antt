use Rattle.std.proofs.Common.{nat_eq}
use Rattle.cache_core.proofs.Firsts.{place_from_position, none_from_position}
use Rattle.cache_core.proofs.holders.Holders.release.Goals as goal

pub returns-in-Some : goal.returns-in-Some
returns-in-Some c =
    let place = place_from_position (nat_eq c.args.pass) c.deref.result.now c.in-Some.place (cc) in
    cc (place.rest, c.remove.ensures.items, c.deref.ensures.value, c.self.view_is)

pub returns-in_default : goal.returns-in_default
returns-in_default c =
    let none = none_from_position (nat_eq c.args.pass) c.deref.result.now (cc) in
    cc (none.1, c.deref.ensures.value, c.self.view_is)
