use Rattle.std.proofs.Common.{◌++◌, ◌∷◌, [], ◌∙◌, ap}
use Rattle.std.specs.Prelude.{Some, remove}
use Rattle.cache_table.specs.Slots.{order_of, last_item}
use Rattle.cache_table.proofs.Chained.{standing, occupied, moved_last_of, closed, shown}
use Rattle.cache_table.proofs.chain.Chain.move_last.Goals as goal

pub links-before-requires : goal.links-before-requires
links-before-requires g c =
    let s = c.self.inside in
    let order = order_of s.slots s.first in
    occupied s.slots s.first s.last order c.requires.0 c.args.slot c.self.invariant (standing s.slots order c.args.self.now c.requires.0 c.args.slot c.self.view_is c.requires.1)

pub invariant_of-self : goal.invariant_of-self
invariant_of-self g c =
    let s = c.self.inside in
    let order = order_of s.slots s.first in
    let place = c.requires.0 in
    let at = standing s.slots order c.args.self.now place c.args.slot c.self.view_is c.requires.1 in
    let made = moved_last_of s.slots c.link_after.new.slots c.link_before.new.slots c.link_after-2.new.slots c.set_links.new.slots s.first s.last c.link_after.new.first c.link_before.new.last c.link_after-2.new.first
    c.links-before.result.0 c.links-before.result.1 order place c.args.slot c.self.invariant at c.links-before.ensures
    c.link_after.ensures.relinks c.link_after.ensures.first c.link_before.ensures.relinks c.link_before.ensures.last c.link_after-2.ensures.relinks c.link_after-2.ensures.first c.set_links.ensures in
    closed c.set_links.new.slots c.link_after-2.new.first (Some c.args.slot) (remove order place ++ c.args.slot ∷ []) made.linked

pub returns : goal.returns
returns g c = λ place stands.
    let s = c.self.inside in
    let order = order_of s.slots s.first in
    let at = standing s.slots order c.args.self.now place c.args.slot c.self.view_is stands in
    let made = moved_last_of s.slots c.link_after.new.slots c.link_before.new.slots c.link_after-2.new.slots c.set_links.new.slots s.first s.last c.link_after.new.first c.link_before.new.last c.link_after-2.new.first
    c.links-before.result.0 c.links-before.result.1 order place c.args.slot c.self.invariant at c.links-before.ensures
    c.link_after.ensures.relinks c.link_after.ensures.first c.link_before.ensures.relinks c.link_before.ensures.last c.link_after-2.ensures.relinks c.link_after-2.ensures.first c.set_links.ensures in
    shown c.set_links.new.slots c.link_after-2.new.first (Some c.args.slot) (remove order place ++ c.args.slot ∷ []) made.linked ∙ made.rows ∙ ap (last_item place) c.self.view_is
