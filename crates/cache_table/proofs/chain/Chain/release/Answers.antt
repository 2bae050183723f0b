use Rattle.std.proofs.Common.{◌≡◌, sym, ◌∙◌, ap, ap₂, refl, true≢false}
use Rattle.std.specs.Prelude.{Some, is_some}
use Rattle.std.specs.Option.{option_copied_mut}
use Rattle.slab.specs.Slab.{get, with_value as with_slot}
use Rattle.cache_core.specs.Rows.{released_by, row_in}
use Rattle.cache_table.specs.Kept.{with_state}
use Rattle.cache_table.specs.Slots.{order_of, changed_item, on_kept}
use Rattle.cache_table.specs.declared.chain.Link.{Link}
use Rattle.cache_table.proofs.Chained.{standing, occupied, rewritten, closed, shown}
use Rattle.cache_table.proofs.chain.Chain.release.Goals as goal

pub unreachable-requires : goal.unreachable-requires
unreachable-requires g c =
    let s = c.self.inside in
    let order = order_of s.slots s.first in
    let at = standing s.slots order c.args.self.now c.requires.0 c.args.slot c.self.view_is c.requires.1 in
    let has = occupied s.slots s.first s.last order c.requires.0 c.args.slot c.self.invariant at in
    true≢false (sym has ∙ ap is_some (sym c.get_mut.ensures.value ∙ ap option_copied_mut c.in-None.is))

pub invariant_of-self : goal.invariant_of-self
invariant_of-self g c =
    let s = c.self.inside in
    let order = order_of s.slots s.first in
    let was = c.in-Some.link.now in
    let link : Link g.row.V.Denot = record { name = was.name; phase = c.release.new.self; before = was.before; after = was.after } in
    let before : get s.slots c.args.slot ≡ Some was = sym c.get_mut.ensures.value ∙ ap option_copied_mut c.in-Some.is in
    let at = standing s.slots order c.args.self.now c.requires.0 c.args.slot c.self.view_is c.requires.1 in
    let made = rewritten s.slots s.first s.last order c.requires.0 c.args.slot was link (with_state (released_by c.args.pass)) c.self.invariant at before refl refl
    (ap₂ (λ t v. record { row = row_in was.name.class was.name.key t; value = v }) c.release.ensures.state c.release.ensures.value) in
    closed (with_slot s.slots c.args.slot link) s.first s.last order made.linked

pub returns : goal.returns
returns g c = λ place stands.
    let s = c.self.inside in
    let order = order_of s.slots s.first in
    let was = c.in-Some.link.now in
    let link : Link g.row.V.Denot = record { name = was.name; phase = c.release.new.self; before = was.before; after = was.after } in
    let before : get s.slots c.args.slot ≡ Some was = sym c.get_mut.ensures.value ∙ ap option_copied_mut c.in-Some.is in
    let at = standing s.slots order c.args.self.now place c.args.slot c.self.view_is stands in
    let made = rewritten s.slots s.first s.last order place c.args.slot was link (with_state (released_by c.args.pass)) c.self.invariant at before refl refl
    (ap₂ (λ t v. record { row = row_in was.name.class was.name.key t; value = v }) c.release.ensures.state c.release.ensures.value) in
    shown (with_slot s.slots c.args.slot link) s.first s.last order made.linked ∙ made.rows ∙ ap (changed_item (on_kept (with_state (released_by c.args.pass))) place) c.self.view_is
