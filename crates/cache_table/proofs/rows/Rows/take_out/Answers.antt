use Rattle.std.proofs.Common.{◌≡◌, sym, ◌∙◌, ap}
use Rattle.std.specs.Prelude.{Some, None, remove}
use Rattle.std.specs.Map.{lookup}
use Rattle.cache_table.specs.Slots.{is_name}
use Rattle.cache_table.proofs.Finding.{none_is, at_inside, stands_found, has_slot, removed_found}
use Rattle.cache_table.proofs.rows.Rows.take_out.Goals as goal

pub unreachable-requires : goal.unreachable-requires
unreachable-requires g c =
    let s = c.self.inside in
    let none : lookup (is_name (record { class = c.args.class; key = c.args.key })) s.places.entries ≡ None = sym c.swap_remove.ensures.value ∙ c.in-None.is in
    none_is (lookup (is_name (record { class = c.args.class; key = c.args.key })) s.places.entries)
    (has_slot c.args.class c.args.key c.requires.0 s.places.entries s.chain c.self.invariant (at_inside c.args.class c.args.key c.requires.0 s.chain c.args.self.now c.self.view_is c.requires.1)) none

pub take_out-requires : goal.take_out-requires
take_out-requires g c =
    let place = c.requires.0 in
    let s = c.self.inside in
    let slot = c.in-Some.slot in
    let found : lookup (is_name (record { class = c.args.class; key = c.args.key })) s.places.entries ≡ Some slot = sym c.swap_remove.ensures.value ∙ c.in-Some.is in
    let at = at_inside c.args.class c.args.key place s.chain c.args.self.now c.self.view_is c.requires.1 in
    let stands = stands_found c.args.class c.args.key slot place s.places.entries s.chain c.self.invariant found at in
    (place, stands)

pub invariant_of-self : goal.invariant_of-self
invariant_of-self g c =
    let place = c.requires.0 in
    let s = c.self.inside in
    let slot = c.in-Some.slot in
    let found : lookup (is_name (record { class = c.args.class; key = c.args.key })) s.places.entries ≡ Some slot = sym c.swap_remove.ensures.value ∙ c.in-Some.is in
    let at = at_inside c.args.class c.args.key place s.chain c.args.self.now c.self.view_is c.requires.1 in
    let stands = stands_found c.args.class c.args.key slot place s.places.entries s.chain c.self.invariant found at in
    (removed_found c.args.class c.args.key slot place s.places.entries c.swap_remove.new.self.entries s.chain c.take_out.new.self c.self.invariant stands at c.swap_remove.ensures.updates.0 (c.take_out.ensures place stands)).indexed

pub returns : goal.returns
returns g c = λ place given.
    let s = c.self.inside in
    let slot = c.in-Some.slot in
    let found : lookup (is_name (record { class = c.args.class; key = c.args.key })) s.places.entries ≡ Some slot = sym c.swap_remove.ensures.value ∙ c.in-Some.is in
    let at = at_inside c.args.class c.args.key place s.chain c.args.self.now c.self.view_is given in
    let stands = stands_found c.args.class c.args.key slot place s.places.entries s.chain c.self.invariant found at in
    (removed_found c.args.class c.args.key slot place s.places.entries c.swap_remove.new.self.entries s.chain c.take_out.new.self c.self.invariant stands at c.swap_remove.ensures.updates.0 (c.take_out.ensures place stands)).rows
    ∙ ap (λ rows. remove rows place) c.self.view_is
