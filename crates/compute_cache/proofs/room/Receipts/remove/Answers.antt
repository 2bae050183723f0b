use Rattle.std.proofs.Common.{sym, ap, ◌∙◌}
use Rattle.std.specs.Prelude.{position}
use Rattle.compute_cache.specs.Passes.{same_hold, without_hold}
use Rattle.compute_cache.specs.Room.{Room}
use Rattle.cache_core.proofs.Firsts.{place_from_position, none_from_position}
use Rattle.compute_cache.proofs.room.Receipts.remove.Goals as goal

pub returns-in-Some-clause-holds : goal.returns-in-Some-clause-holds
returns-in-Some-clause-holds c =
    let items = c.self.inside.list.items in
    let p = same_hold c.args.hold in
    let place = place_from_position p items c.in-Some.place (sym (ap (position p) c.deref.ensures.value) ∙ sym c.place_of.ensures ∙ c.in-Some.is) in
    c.remove.ensures.items ∙ sym place.rest ∙ ap (λ (r : Room). without_hold c.args.hold r.holds) c.self.view_is

pub returns-in_default-clause-holds : goal.returns-in_default-clause-holds
returns-in_default-clause-holds c =
    let items = c.self.inside.list.items in
    let p = same_hold c.args.hold in
    let none = none_from_position p items (sym (ap (position p) c.deref.ensures.value) ∙ sym c.place_of.ensures ∙ c.in_default.is) in
    sym (ap (λ (r : Room). r.holds) c.self.view_is) ∙ sym none.1 ∙ ap (λ (r : Room). without_hold c.args.hold r.holds) c.self.view_is
