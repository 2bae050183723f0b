use Rattle.std.proofs.Common.{◌≡◌, ◌≢◌, ℕ, ◌∷◌, [], sym, ◌∙◌, ap, ap₂, refl, arith}
use Rattle.std.specs.Prelude.{Some, option_map, slice_get}
use Rattle.std.specs.Arc.{arc_value}
use Rattle.slab.specs.Slab.{get, slab_len}
use Rattle.cache_core.specs.Rows.{is_running, row_in}
use Rattle.cache_core.specs.declared.row.State.TheVariants.{Live}
use Rattle.cache_table.specs.Kept.{with_value}
use Rattle.cache_table.specs.Slots.{order_of, changed_item, on_kept, kept_at}
use Rattle.cache_table.specs.declared.chain.Link.{Link}
use Rattle.cache_table.proofs.Slotted.{some_from}
use Rattle.cache_table.proofs.Chained.{standing, occupied, row_there, rephased, closed, shown}
use Rattle.cache_table.proofs.chain.Chain.finish.Goals as goal

pub remove-phase-requires : goal.remove-phase-requires
remove-phase-requires g c =
    let s = c.self.inside in
    let order = order_of s.slots s.first in
    occupied s.slots s.first s.last order c.requires.0 c.args.slot c.self.invariant (standing s.slots order c.args.self.now c.requires.0 c.args.slot c.self.view_is c.requires.1)

pub finished-requires : goal.finished-requires
finished-requires g c =
    let s = c.self.inside in
    let order = order_of s.slots s.first in
    let at = standing s.slots order c.args.self.now c.requires.0 c.args.slot c.self.view_is c.requires.1 in
    some_from (sym (ap (λ rows. option_map (λ row. is_running c.args.pass row.1.row.state) (slice_get rows c.requires.0)) (sym c.self.view_is)
    ∙ ap (option_map (λ row. is_running c.args.pass row.1.row.state)) (row_there s.slots order c.requires.0 c.args.slot at)
    ∙ ap (λ o. Some (is_running c.args.pass (kept_at o).row.state)) c.remove-phase.ensures.value) ∙ c.requires.2)

pub invariant_of-self : goal.invariant_of-self
invariant_of-self g c =
    let s = c.self.inside in
    let order = order_of s.slots s.first in
    let slot = c.args.slot in
    let was = c.remove-phase.result in
    let new = c.insert_reserved.new.self in
    let link : Link g.row.V.Denot = record { name = was.name; phase = c.finished.result; before = was.before; after = was.after } in
    let same : c.insert_reserved.result ≡ slot = c.insert_reserved.ensures.key ∙ c.remove-phase.ensures.key_is_next in
    let others : (other : ℕ) → other ≢ slot → get new other ≡ get s.slots other =
    λ other differs. c.insert_reserved.ensures.updates.others other (λ e. differs (e ∙ same)) ∙ c.remove-phase.ensures.updates.others other differs in
    let here : get new slot ≡ Some link = ap (get new) (sym same) ∙ c.insert_reserved.ensures.updates.changed in
    let len : slab_len new ≡ slab_len s.slots = omega (arith, c.insert_reserved.ensures.len, c.remove-phase.ensures.len) in
    let at = standing s.slots order c.args.self.now c.requires.0 slot c.self.view_is c.requires.1 in
    let made = rephased s.slots new s.first s.last order c.requires.0 slot was link (λ _. kept_at (Some link)) c.self.invariant at c.remove-phase.ensures.value others here len refl refl refl in
    closed new s.first s.last order made.linked

pub returns : goal.returns
returns g c = λ place stands.
    let s = c.self.inside in
    let order = order_of s.slots s.first in
    let slot = c.args.slot in
    let was = c.remove-phase.result in
    let new = c.insert_reserved.new.self in
    let link : Link g.row.V.Denot = record { name = was.name; phase = c.finished.result; before = was.before; after = was.after } in
    let same : c.insert_reserved.result ≡ slot = c.insert_reserved.ensures.key ∙ c.remove-phase.ensures.key_is_next in
    let others : (other : ℕ) → other ≢ slot → get new other ≡ get s.slots other =
    λ other differs. c.insert_reserved.ensures.updates.others other (λ e. differs (e ∙ same)) ∙ c.remove-phase.ensures.updates.others other differs in
    let here : get new slot ≡ Some link = ap (get new) (sym same) ∙ c.insert_reserved.ensures.updates.changed in
    let len : slab_len new ≡ slab_len s.slots = omega (arith, c.insert_reserved.ensures.len, c.remove-phase.ensures.len) in
    let at = standing s.slots order c.args.self.now place slot c.self.view_is stands in
    let change = with_value (Live c.args.serial c.args.size (c.args.pass ∷ [])) (arc_value c.args.value) in
    let made = rephased s.slots new s.first s.last order place slot was link change c.self.invariant at c.remove-phase.ensures.value others here len refl refl
    (ap₂ (λ t v. record { row = row_in was.name.class was.name.key t; value = v }) c.finished.ensures.state c.finished.ensures.value) in
    shown new s.first s.last order made.linked ∙ made.rows ∙ ap (changed_item (on_kept change) place) c.self.view_is
