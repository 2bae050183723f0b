use Rattle.std.proofs.Common.{◌∙◌, ap}
use Rattle.std.specs.Prelude.{remove}
use Rattle.cache_table.specs.Slots.{order_of}
use Rattle.cache_table.proofs.Chained.{standing, occupied, bridged, taken_out, closed, shown}
use Rattle.cache_table.proofs.chain.Chain.take_out.Goals as goal

pub links-before-requires : goal.links-before-requires
links-before-requires g c =
    let s = c.self.inside in
    let order = order_of s.slots s.first in
    occupied s.slots s.first s.last order c.requires.0 c.args.slot c.self.invariant (standing s.slots order c.args.self.now c.requires.0 c.args.slot c.self.view_is c.requires.1)

pub invariant_of-self : goal.invariant_of-self
invariant_of-self g c =
    let s = c.self.inside in
    let order = order_of s.slots s.first in
    let place = c.requires.0 in
    let at = standing s.slots order c.args.self.now place c.args.slot c.self.view_is c.requires.1 in
    let bridge = bridged s.slots c.link_after.new.slots c.link_before.new.slots s.first s.last c.link_after.new.first c.link_before.new.last c.links-before.result.0 c.links-before.result.1 order place c.args.slot c.self.invariant at
    c.links-before.ensures c.link_after.ensures.relinks c.link_after.ensures.first c.link_before.ensures.relinks c.link_before.ensures.last in
    let made = taken_out s.slots c.link_before.new.slots c.remove.new.self c.link_after.new.first c.link_before.new.last order place c.args.slot c.self.invariant.all bridge c.remove.ensures.updates c.remove.ensures.len in
    closed c.remove.new.self c.link_after.new.first c.link_before.new.last (remove order place) made.linked

pub returns : goal.returns
returns g c = λ place stands.
    let s = c.self.inside in
    let order = order_of s.slots s.first in
    let at = standing s.slots order c.args.self.now place c.args.slot c.self.view_is stands in
    let bridge = bridged s.slots c.link_after.new.slots c.link_before.new.slots s.first s.last c.link_after.new.first c.link_before.new.last c.links-before.result.0 c.links-before.result.1 order place c.args.slot c.self.invariant at
    c.links-before.ensures c.link_after.ensures.relinks c.link_after.ensures.first c.link_before.ensures.relinks c.link_before.ensures.last in
    let made = taken_out s.slots c.link_before.new.slots c.remove.new.self c.link_after.new.first c.link_before.new.last order place c.args.slot c.self.invariant.all bridge c.remove.ensures.updates c.remove.ensures.len in
    shown c.remove.new.self c.link_after.new.first c.link_before.new.last (remove order place) made.linked ∙ made.rows ∙ ap (λ rows. remove rows place) c.self.view_is
