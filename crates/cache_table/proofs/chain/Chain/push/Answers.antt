use Rattle.std.proofs.Common.{◌++◌, ◌∷◌, [], ◌∙◌, ap, refl}
use Rattle.std.specs.Prelude.{Some, None}
use Rattle.cache_table.specs.Kept.{kept_running}
use Rattle.cache_table.specs.Slots.{order_of}
use Rattle.cache_table.specs.declared.phase.Phase.TheVariants.{Running}
use Rattle.cache_table.proofs.Slotted.{on_err_from}
use Rattle.cache_table.proofs.Chained.{linked-capacity, chained-capacity, pushed, closed, shown}
use Rattle.cache_table.proofs.chain.Chain.push.Goals as goal

pub invariant_of-self : goal.invariant_of-self
invariant_of-self g c =
    let s = c.self.inside in
    let order = order_of s.slots s.first in
    closed c.reserve.new.self s.first s.last order (linked-capacity s.slots c.reserve.new.self s.first s.last order c.reserve.new.self.capacity c.reserve.ensures.rest_kept c.self.invariant)

pub returns-in_err-reserve-clause-err : goal.returns-in_err-reserve-clause-err
returns-in_err-reserve-clause-err g c =
    let s = c.self.inside in
    let order = order_of s.slots s.first in
    on_err_from c.from_residual.result
    (shown c.reserve.new.self s.first s.last order (linked-capacity s.slots c.reserve.new.self s.first s.last order c.reserve.new.self.capacity c.reserve.ensures.rest_kept c.self.invariant)
    ∙ chained-capacity s.slots c.reserve.new.self order c.reserve.new.self.capacity c.reserve.ensures.rest_kept ∙ c.self.view_is)

pub invariant_of-self-2 : goal.invariant_of-self-2
invariant_of-self-2 g c =
    let s = c.self.inside in
    let order = order_of s.slots s.first in
    let slot = c.insert_reserved-slot.result in
    let linked = linked-capacity s.slots c.reserve.new.self s.first s.last order c.reserve.new.self.capacity c.reserve.ensures.rest_kept c.self.invariant in
    let made = pushed c.reserve.new.self c.insert_reserved-slot.new.self c.link_after.new.slots s.first s.last c.link_after.new.first order slot
    (record { name = c.args.name; phase = Running c.args.turn; before = s.last; after = None })
    linked c.insert_reserved-slot.ensures.was_vacant c.insert_reserved-slot.ensures.updates c.insert_reserved-slot.ensures.len refl refl c.link_after.ensures.relinks c.link_after.ensures.first in
    closed c.link_after.new.slots c.link_after.new.first (Some slot) (order ++ slot ∷ []) made.linked

pub returns-clause-ok : goal.returns-clause-ok
returns-clause-ok g c =
    let s = c.self.inside in
    let order = order_of s.slots s.first in
    let slot = c.insert_reserved-slot.result in
    let linked = linked-capacity s.slots c.reserve.new.self s.first s.last order c.reserve.new.self.capacity c.reserve.ensures.rest_kept c.self.invariant in
    let made = pushed c.reserve.new.self c.insert_reserved-slot.new.self c.link_after.new.slots s.first s.last c.link_after.new.first order slot
    (record { name = c.args.name; phase = Running c.args.turn; before = s.last; after = None })
    linked c.insert_reserved-slot.ensures.was_vacant c.insert_reserved-slot.ensures.updates c.insert_reserved-slot.ensures.len refl refl c.link_after.ensures.relinks c.link_after.ensures.first in
    shown c.link_after.new.slots c.link_after.new.first (Some slot) (order ++ slot ∷ []) made.linked ∙ made.rows
    ∙ ap (λ rows. rows ++ (slot, kept_running c.args.turn.owner c.args.name.class c.args.name.key) ∷ [])
    (chained-capacity s.slots c.reserve.new.self order c.reserve.new.self.capacity c.reserve.ensures.rest_kept ∙ c.self.view_is)
