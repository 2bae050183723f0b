use Rattle.std.proofs.Common.{sym, ◌∙◌, ap, refl}
use Rattle.std.proofs.Common.{◌∷◌, []}
use Rattle.std.specs.Arc.{arc_value}
use Rattle.cache_core.specs.Rows.{is_running}
use Rattle.cache_core.specs.declared.row.State.TheVariants.{Live}
use Rattle.cache_table.specs.Kept.{with_value, changed_at, moved_last}
use Rattle.cache_table.proofs.Finding.{at_plain, at_inside, stands_found, has_slot, stands_changed, touched}
use Rattle.cache_table.proofs.rows.Rows.finish.Goals as goal

pub slot_of-slot-requires : goal.slot_of-slot-requires
slot_of-slot-requires g c =
    let s = c.self.inside in
    has_slot c.args.class c.args.key c.requires.0 s.places.entries s.chain c.self.invariant (at_inside c.args.class c.args.key c.requires.0 s.chain c.args.self.now c.self.view_is c.requires.1)

pub finish-requires : goal.finish-requires
finish-requires g c =
    let s = c.self.inside in
    let slot = c.slot_of-slot.result in
    let place = c.requires.0 in
    let at = at_inside c.args.class c.args.key place s.chain c.args.self.now c.self.view_is c.requires.1 in
    let stands = stands_found c.args.class c.args.key slot place s.places.entries s.chain c.self.invariant c.slot_of-slot.ensures at in
    (place, stands, sym (at_plain (λ kept. is_running c.args.pass kept.row.state) s.chain c.args.self.now place c.self.view_is) ∙ c.requires.2)

pub move_last-requires : goal.move_last-requires
move_last-requires g c =
    let s = c.self.inside in
    let slot = c.slot_of-slot.result in
    let place = c.requires.0 in
    let at = at_inside c.args.class c.args.key place s.chain c.args.self.now c.self.view_is c.requires.1 in
    let stands = stands_found c.args.class c.args.key slot place s.places.entries s.chain c.self.invariant c.slot_of-slot.ensures at in
    (place, stands_changed slot place s.chain c.finish.new.self (with_value (Live c.args.serial c.args.size (c.args.pass ∷ [])) (arc_value c.args.value)) stands (c.finish.ensures place stands))

pub invariant_of-self : goal.invariant_of-self
invariant_of-self g c =
    let s = c.self.inside in
    let slot = c.slot_of-slot.result in
    let place = c.requires.0 in
    let at = at_inside c.args.class c.args.key place s.chain c.args.self.now c.self.view_is c.requires.1 in
    let stands = stands_found c.args.class c.args.key slot place s.places.entries s.chain c.self.invariant c.slot_of-slot.ensures at in
    let change = with_value (Live c.args.serial c.args.size (c.args.pass ∷ [])) (arc_value c.args.value) in
    let finished = c.finish.ensures place stands in
    (touched s.places.entries s.chain c.finish.new.self c.move_last.new.self slot place change c.self.invariant stands finished
    (c.move_last.ensures place (stands_changed slot place s.chain c.finish.new.self change stands finished)) (λ k. refl) (λ k. refl)).indexed

pub returns : goal.returns
returns g c = λ place given.
    let s = c.self.inside in
    let slot = c.slot_of-slot.result in
    let at = at_inside c.args.class c.args.key place s.chain c.args.self.now c.self.view_is given in
    let stands = stands_found c.args.class c.args.key slot place s.places.entries s.chain c.self.invariant c.slot_of-slot.ensures at in
    let change = with_value (Live c.args.serial c.args.size (c.args.pass ∷ [])) (arc_value c.args.value) in
    let finished = c.finish.ensures place stands in
    (touched s.places.entries s.chain c.finish.new.self c.move_last.new.self slot place change c.self.invariant stands finished
    (c.move_last.ensures place (stands_changed slot place s.chain c.finish.new.self change stands finished)) (λ k. refl) (λ k. refl)).rows
    ∙ ap (λ rows. moved_last place (changed_at change place rows)) c.self.view_is
