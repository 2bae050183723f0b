use Rattle.std.proofs.Common.{◌≡◌, sym, ◌∙◌, ap}
use Rattle.std.specs.Prelude.{Some, None, map, option_copied}
use Rattle.std.specs.Map.{lookup}
use Rattle.cache_core.specs.Rows.{state_of}
use Rattle.cache_table.specs.Slots.{is_name, state_in}
use Rattle.cache_table.proofs.Finding.{stands_found, some_row, no_row, state_there_is}
use Rattle.cache_table.proofs.Acting.{state_absent}
use Rattle.cache_table.proofs.rows.Rows.phase_of.Goals as goal

pub phase-requires : goal.phase-requires
phase-requires g c =
    let s = c.self.inside in
    let slot = c.in-Some.slot.now in
    let found : lookup (is_name (record { class = c.args.class; key = c.args.key })) s.places.entries ≡ Some slot = sym c.get.ensures.value ∙ ap option_copied c.in-Some.is in
    let place = some_row c.args.class c.args.key slot s.places.entries s.chain c.self.invariant found in
    (place.0, stands_found c.args.class c.args.key slot place.0 s.places.entries s.chain c.self.invariant found place.1)

pub returns-in-Some : goal.returns-in-Some
returns-in-Some g c =
    let s = c.self.inside in
    let slot = c.in-Some.slot.now in
    let found : lookup (is_name (record { class = c.args.class; key = c.args.key })) s.places.entries ≡ Some slot = sym c.get.ensures.value ∙ ap option_copied c.in-Some.is in
    let place = some_row c.args.class c.args.key slot s.places.entries s.chain c.self.invariant found in
    let stands = stands_found c.args.class c.args.key slot place.0 s.places.entries s.chain c.self.invariant found place.1 in
    state_there_is c.args.class c.args.key place.0 s.chain (state_in c.phase.result.now) place.1 (c.phase.ensures.state place.0 stands)
    ∙ ap (λ rows. state_of c.args.class c.args.key (map (λ kept. kept.row) rows)) c.self.view_is

pub returns-in-None : goal.returns-in-None
returns-in-None g c =
    let s = c.self.inside in
    let none : lookup (is_name (record { class = c.args.class; key = c.args.key })) s.places.entries ≡ None = sym c.get.ensures.value ∙ ap option_copied c.in-None.is in
    sym (ap (λ rows. state_of c.args.class c.args.key (map (λ kept. kept.row) rows)) (sym c.self.view_is)
    ∙ state_absent c.args.class c.args.key _ (no_row c.args.class c.args.key s.places.entries s.chain c.self.invariant none))
