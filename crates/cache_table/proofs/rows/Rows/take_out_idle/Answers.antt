use Rattle.std.proofs.Common.{sym, ◌∙◌, ap}
use Rattle.std.specs.Prelude.{position, remove, slice_get}
use Rattle.cache_core.specs.Rows.{is_idle, is_live, size_of}
use Rattle.cache_table.specs.Kept.{is_kept_idle}
use Rattle.cache_table.specs.Slots.{state_in}
use Rattle.cache_table.proofs.Keeping.{through, idle_is}
use Rattle.cache_table.proofs.Slotted.{if_none_from}
use Rattle.cache_table.proofs.Finding.{known, at_plain, idle_found, idle_none, removed}
use Rattle.cache_table.proofs.rows.Rows.take_out_idle.Goals as goal

pub returns-in_err-slot-clause-none : goal.returns-in_err-slot-clause-none
returns-in_err-slot-clause-none g c =
    if_none_from c.from_residual.result (ap (position is_kept_idle) (sym c.self.view_is) ∙ idle_none c.self.inside.chain (sym c.in_err-slot.was ∙ c.first_idle.ensures))

pub name-name-requires : goal.name-name-requires
name-name-requires g c =
    let s = c.self.inside in
    let slot = c.in_ok-slot.slot in
    let it = idle_found slot s.chain (sym c.in_ok-slot.was ∙ c.first_idle.ensures) in
    let place = it.0 in
    let stands = it.2 in
    (place, stands)

pub phase-phase-requires : goal.phase-phase-requires
phase-phase-requires g c =
    let s = c.self.inside in
    let slot = c.in_ok-slot.slot in
    let it = idle_found slot s.chain (sym c.in_ok-slot.was ∙ c.first_idle.ensures) in
    let place = it.0 in
    let stands = it.2 in
    (place, stands)

pub serial-requires : goal.serial-requires
serial-requires g c =
    let s = c.self.inside in
    let slot = c.in_ok-slot.slot in
    let it = idle_found slot s.chain (sym c.in_ok-slot.was ∙ c.first_idle.ensures) in
    let place = it.0 in
    let stands = it.2 in
    (idle_is (state_in c.phase-phase.result.now) (known is_idle (λ row. row.1.row.state) (slice_get s.chain place) (state_in c.phase-phase.result.now) _ (c.phase-phase.ensures.state place stands) it.3)).1

pub take_out-requires : goal.take_out-requires
take_out-requires g c =
    let s = c.self.inside in
    let slot = c.in_ok-slot.slot in
    let it = idle_found slot s.chain (sym c.in_ok-slot.was ∙ c.first_idle.ensures) in
    let place = it.0 in
    let stands = it.2 in
    (place, stands)

pub invariant_of-self : goal.invariant_of-self
invariant_of-self g c =
    let s = c.self.inside in
    let slot = c.in_ok-slot.slot in
    let it = idle_found slot s.chain (sym c.in_ok-slot.was ∙ c.first_idle.ensures) in
    let place = it.0 in
    let stands = it.2 in
    (removed s.places.entries c.swap_remove.new.self.entries s.chain c.take_out.new.self slot place c.name-name.result c.self.invariant stands
    (c.name-name.ensures.class place stands) (c.name-name.ensures.key place stands) c.swap_remove.ensures.updates.0 (c.take_out.ensures place stands)).indexed

pub returns-clause-some : goal.returns-clause-some
returns-clause-some g c =
    let s = c.self.inside in
    let slot = c.in_ok-slot.slot in
    let it = idle_found slot s.chain (sym c.in_ok-slot.was ∙ c.first_idle.ensures) in
    let place = it.0 in
    let stands = it.2 in
    let made = removed s.places.entries c.swap_remove.new.self.entries s.chain c.take_out.new.self slot place c.name-name.result c.self.invariant stands
    (c.name-name.ensures.class place stands) (c.name-name.ensures.key place stands) c.swap_remove.ensures.updates.0 (c.take_out.ensures place stands) in (
      place,
      ap (position is_kept_idle) (sym c.self.view_is) ∙ it.1,
      made.rows ∙ ap (λ rows. remove rows place) c.self.view_is,
      at_plain (λ kept. kept.row.class) s.chain c.args.self.now place c.self.view_is ∙ c.name-name.ensures.class place stands,
      at_plain (λ kept. kept.row.key) s.chain c.args.self.now place c.self.view_is ∙ c.name-name.ensures.key place stands,
      at_plain (λ kept. is_live c.serial.result kept.row.state) s.chain c.args.self.now place c.self.view_is
          ∙ through (is_live c.serial.result) (λ row. row.1.row.state) (slice_get s.chain place) (state_in c.phase-phase.result.now) _ (c.phase-phase.ensures.state place stands) c.serial.ensures,
      at_plain (λ kept. size_of kept.row.state) s.chain c.args.self.now place c.self.view_is
          ∙ through size_of (λ row. row.1.row.state) (slice_get s.chain place) (state_in c.phase-phase.result.now) _ (c.phase-phase.ensures.state place stands) (sym c.size.ensures),
    )
