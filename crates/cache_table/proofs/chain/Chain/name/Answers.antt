use Rattle.std.proofs.Common.{◌≡◌, sym, ◌∙◌, ap, true≢false}
use Rattle.std.specs.Prelude.{Some, option_map, slice_get, is_some, option_copied}
use Rattle.slab.specs.Slab.{get}
use Rattle.cache_table.specs.Slots.{order_of, kept_at}
use Rattle.cache_table.proofs.Chained.{standing, occupied, row_there}
use Rattle.cache_table.proofs.chain.Chain.name.Goals as goal

pub unreachable-requires : goal.unreachable-requires
unreachable-requires g c =
    let s = c.self.inside in
    let order = order_of s.slots s.first in
    let at = standing s.slots order c.args.self.now c.requires.0 c.args.slot c.self.view_is c.requires.1 in
    let has = occupied s.slots s.first s.last order c.requires.0 c.args.slot c.self.invariant at in
    true≢false (sym has ∙ ap is_some (sym c.get.ensures ∙ ap option_copied c.in-None.is))

pub returns-clause-class : goal.returns-clause-class
returns-clause-class g c = λ place stands.
    let s = c.self.inside in
    let order = order_of s.slots s.first in
    let here : get s.slots c.args.slot ≡ Some c.in-Some.link.now = sym c.get.ensures ∙ ap option_copied c.in-Some.is in
    ap (λ rows. option_map (λ row. row.1.row.class) (slice_get rows place)) (sym c.self.view_is)
    ∙ ap (option_map (λ row. row.1.row.class)) (row_there s.slots order place c.args.slot (standing s.slots order c.args.self.now place c.args.slot c.self.view_is stands))
    ∙ ap (λ o. Some (kept_at o).row.class) here

pub returns-clause-key : goal.returns-clause-key
returns-clause-key g c = λ place stands.
    let s = c.self.inside in
    let order = order_of s.slots s.first in
    let here : get s.slots c.args.slot ≡ Some c.in-Some.link.now = sym c.get.ensures ∙ ap option_copied c.in-Some.is in
    ap (λ rows. option_map (λ row. row.1.row.key) (slice_get rows place)) (sym c.self.view_is)
    ∙ ap (option_map (λ row. row.1.row.key)) (row_there s.slots order place c.args.slot (standing s.slots order c.args.self.now place c.args.slot c.self.view_is stands))
    ∙ ap (λ o. Some (kept_at o).row.key) here
