use Rattle.std.proofs.Common.{sym, ◌∙◌, ap, refl}
use Rattle.std.specs.Prelude.{Some, slice_get}
use Rattle.cache_core.specs.Rows.{held_by, is_live}
use Rattle.cache_table.specs.Cache.{is_any_live}
use Rattle.cache_table.specs.Kept.{with_state, changed_at, moved_last}
use Rattle.cache_table.specs.Slots.{state_in}
use Rattle.cache_table.proofs.Keeping.{through}
use Rattle.cache_table.proofs.Finding.{known, at_plain, at_inside, stands_found, has_slot, stands_changed, touched}
use Rattle.cache_table.proofs.rows.Rows.take.Goals as goal

pub slot_of-slot-requires : goal.slot_of-slot-requires
slot_of-slot-requires g c =
    let s = c.self.inside in
    has_slot c.args.class c.args.key c.requires.0 s.places.entries s.chain c.self.invariant (at_inside c.args.class c.args.key c.requires.0 s.chain c.args.self.now c.self.view_is c.requires.1)

pub phase-requires : goal.phase-requires
phase-requires g c =
    let s = c.self.inside in
    let slot = c.slot_of-slot.result in
    let place = c.requires.0 in
    let at = at_inside c.args.class c.args.key place s.chain c.args.self.now c.self.view_is c.requires.1 in
    let stands = stands_found c.args.class c.args.key slot place s.places.entries s.chain c.self.invariant c.slot_of-slot.ensures at in
    (place, stands)

pub shared-requires : goal.shared-requires
shared-requires g c =
    let s = c.self.inside in
    let slot = c.slot_of-slot.result in
    let place = c.requires.0 in
    let at = at_inside c.args.class c.args.key place s.chain c.args.self.now c.self.view_is c.requires.1 in
    let stands = stands_found c.args.class c.args.key slot place s.places.entries s.chain c.self.invariant c.slot_of-slot.ensures at in
    known is_any_live (λ row. row.1.row.state) (slice_get s.chain place) (state_in c.phase.result.now) _ (c.phase.ensures.state place stands)
    (sym (at_plain (λ kept. is_any_live kept.row.state) s.chain c.args.self.now place c.self.view_is) ∙ c.requires.2)

pub hold-requires : goal.hold-requires
hold-requires g c =
    let s = c.self.inside in
    let slot = c.slot_of-slot.result in
    let place = c.requires.0 in
    let at = at_inside c.args.class c.args.key place s.chain c.args.self.now c.self.view_is c.requires.1 in
    let stands = stands_found c.args.class c.args.key slot place s.places.entries s.chain c.self.invariant c.slot_of-slot.ensures at in
    (place, stands)

pub move_last-requires : goal.move_last-requires
move_last-requires g c =
    let s = c.self.inside in
    let slot = c.slot_of-slot.result in
    let place = c.requires.0 in
    let at = at_inside c.args.class c.args.key place s.chain c.args.self.now c.self.view_is c.requires.1 in
    let stands = stands_found c.args.class c.args.key slot place s.places.entries s.chain c.self.invariant c.slot_of-slot.ensures at in
    (place, stands_changed slot place s.chain c.hold.new.self (with_state (held_by c.args.pass)) stands (c.in_ok-hold.ensures.ok place stands))

pub invariant_of-self-2 : goal.invariant_of-self-2
invariant_of-self-2 g c =
    let s = c.self.inside in
    let slot = c.slot_of-slot.result in
    let place = c.requires.0 in
    let at = at_inside c.args.class c.args.key place s.chain c.args.self.now c.self.view_is c.requires.1 in
    let stands = stands_found c.args.class c.args.key slot place s.places.entries s.chain c.self.invariant c.slot_of-slot.ensures at in
    let change = with_state (held_by c.args.pass) in
    let held = c.in_ok-hold.ensures.ok place stands in
    (touched s.places.entries s.chain c.hold.new.self c.move_last.new.self slot place change c.self.invariant stands held
    (c.move_last.ensures place (stands_changed slot place s.chain c.hold.new.self change stands held)) (λ k. refl) (λ k. refl)).indexed

pub returns-clause-rows : goal.returns-clause-rows
returns-clause-rows g c = λ place given.
    let s = c.self.inside in
    let slot = c.slot_of-slot.result in
    let at = at_inside c.args.class c.args.key place s.chain c.args.self.now c.self.view_is given in
    let stands = stands_found c.args.class c.args.key slot place s.places.entries s.chain c.self.invariant c.slot_of-slot.ensures at in
    let change = with_state (held_by c.args.pass) in
    let held = c.in_ok-hold.ensures.ok place stands in
    (touched s.places.entries s.chain c.hold.new.self c.move_last.new.self slot place change c.self.invariant stands held
    (c.move_last.ensures place (stands_changed slot place s.chain c.hold.new.self change stands held)) (λ k. refl) (λ k. refl)).rows
    ∙ ap (λ rows. moved_last place (changed_at change place rows)) c.self.view_is

pub returns-clause-serial : goal.returns-clause-serial
returns-clause-serial g c = λ place given.
    let s = c.self.inside in
    let slot = c.slot_of-slot.result in
    let at = at_inside c.args.class c.args.key place s.chain c.args.self.now c.self.view_is given in
    let stands = stands_found c.args.class c.args.key slot place s.places.entries s.chain c.self.invariant c.slot_of-slot.ensures at in
    let serial = c.in_ok-taken.taken.0 in
    at_plain (λ kept. is_live serial kept.row.state) s.chain c.args.self.now place c.self.view_is
    ∙ through (is_live serial) (λ row. row.1.row.state) (slice_get s.chain place) (state_in c.phase.result.now) _ (c.phase.ensures.state place stands) c.in_ok-taken.ensures.serial

pub returns-clause-value : goal.returns-clause-value
returns-clause-value g c = λ place given.
    let s = c.self.inside in
    let slot = c.slot_of-slot.result in
    let at = at_inside c.args.class c.args.key place s.chain c.args.self.now c.self.view_is given in
    let stands = stands_found c.args.class c.args.key slot place s.places.entries s.chain c.self.invariant c.slot_of-slot.ensures at in
    at_plain (λ kept. kept.value) s.chain c.args.self.now place c.self.view_is ∙ c.phase.ensures.value place stands ∙ ap Some c.in_ok-taken.ensures.value
