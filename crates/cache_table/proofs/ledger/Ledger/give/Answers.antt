use Rattle.std.proofs.Common.{◌≡◌, true, sym, ◌∙◌, ap, subst, arith, ◌++◌, ◌∷◌, [], ◌+◌, ◌-◌, ◌≤◌}
use Rattle.std.specs.Prelude.{vec_len, vec_capacity, Some, position, option_map, slice_get}
use Rattle.cache_core.specs.Rows.{is_live, is_held_by, state_of}
use Rattle.cache_core.specs.Core.{is_settled, is_in}
use Rattle.cache_table.specs.Kept.{is_kept}
use Rattle.cache_table.specs.Cache.{core_of}
use Rattle.cache_table.proofs.Keeping.{kept_from, room_in, item_from, need_within, need_positive}
use Rattle.cache_table.proofs.Acting.{after_give}
use Rattle.cache_core.specs.declared.entry.Entry.{Entry}
use Rattle.cache_core.specs.declared.entry.Act.TheVariants.{Give}
use Rattle.cache_table.proofs.Settling.{test_back}
use Rattle.cache_table.proofs.ledger.Ledger.give.Goals as goal

pub push_reserved-requires : goal.push_reserved-requires
push_reserved-requires g c =
    let s = c.self.inside in
    let settled = subst (λ s. is_settled (core_of s).budget (core_of s).rows ≡ true) (sym c.self.view_is) c.requires.settled in
    let place = c.requires.held.0 in
    let at = subst (λ s. position (is_kept c.args.class c.args.key) s.rows ≡ Some place) (sym c.self.view_is) c.requires.held.1 in
    let held = subst (λ s. option_map (λ kept. is_held_by c.args.pass kept.row.state) (slice_get s.rows place) ≡ Some true) (sym c.self.view_is) c.requires.held.2 in
    let item = item_from (λ kept. is_held_by c.args.pass kept.row.state) s.rows place true held in
    let need : 1 ≤ s.owed = omega (arith, need_within s.rows place item.0 item.1, need_positive item.0.row.state, c.self.invariant.owed_is) in
    omega (arith, need, c.self.invariant.room.within)

pub overflow_sub-self : goal.overflow_sub-self
overflow_sub-self g c =
    let s = c.self.inside in
    let settled = subst (λ s. is_settled (core_of s).budget (core_of s).rows ≡ true) (sym c.self.view_is) c.requires.settled in
    let place = c.requires.held.0 in
    let at = subst (λ s. position (is_kept c.args.class c.args.key) s.rows ≡ Some place) (sym c.self.view_is) c.requires.held.1 in
    let held = subst (λ s. option_map (λ kept. is_held_by c.args.pass kept.row.state) (slice_get s.rows place) ≡ Some true) (sym c.self.view_is) c.requires.held.2 in
    let item = item_from (λ kept. is_held_by c.args.pass kept.row.state) s.rows place true held in
    let need : 1 ≤ s.owed = omega (arith, need_within s.rows place item.0 item.1, need_positive item.0.row.state, c.self.invariant.owed_is) in
    omega (arith, need)

pub invariant_of-self : goal.invariant_of-self
invariant_of-self g c =
    let s = c.self.inside in
    let settled = subst (λ s. is_settled (core_of s).budget (core_of s).rows ≡ true) (sym c.self.view_is) c.requires.settled in
    let place = c.requires.held.0 in
    let at = subst (λ s. position (is_kept c.args.class c.args.key) s.rows ≡ Some place) (sym c.self.view_is) c.requires.held.1 in
    let held = subst (λ s. option_map (λ kept. is_held_by c.args.pass kept.row.state) (slice_get s.rows place) ≡ Some true) (sym c.self.view_is) c.requires.held.2 in
    let item = item_from (λ kept. is_held_by c.args.pass kept.row.state) s.rows place true held in
    let need : 1 ≤ s.owed = omega (arith, need_within s.rows place item.0 item.1, need_positive item.0.row.state, c.self.invariant.owed_is) in
    after_give s.budget s.history.items c.push_reserved.new.self.items s.rows c.give-serial.new.self s.live s.owed (vec_len s.history) (vec_capacity s.history)
    (s.owed - 1) (vec_len c.push_reserved.new.self) (vec_capacity c.push_reserved.new.self) c.args.pass c.args.class c.args.key c.give-serial.result place
    c.self.invariant settled at held
    (c.give-serial.ensures.serial place at)
    (omega (arith, need)) c.push_reserved.ensures.len
    (room_in (vec_len s.history + s.owed) _ (vec_capacity s.history) _ c.self.invariant.room (omega (arith, need, c.push_reserved.ensures.len)) (omega (arith, c.push_reserved.ensures.capacity))) c.push_reserved.ensures.items
    (c.give-serial.ensures.rows place at)

pub returns-clause-kept : goal.returns-clause-kept
returns-clause-kept g c =
    kept_from c.self.inside.budget c.push_reserved.new.self.items c.give-serial.new.self c.self.inside.live (c.self.inside.owed - 1) (vec_len c.push_reserved.new.self) (vec_capacity c.push_reserved.new.self) (invariant_of-self g c)

pub returns-clause-adds : goal.returns-clause-adds
returns-clause-adds g c =
    let s = c.self.inside in
    let place = c.requires.held.0 in
    let at = subst (λ s. position (is_kept c.args.class c.args.key) s.rows ≡ Some place) (sym c.self.view_is) c.requires.held.1 in
    let serial = c.give-serial.result in
    let entry : Entry = record { pass = c.args.pass; class = c.args.class; key = c.args.key; act = Give serial } in (
      serial,
      ap (λ s. is_in (is_live serial) (state_of c.args.class c.args.key (core_of s).rows)) (sym c.self.view_is) ∙ test_back (is_live serial) c.args.class c.args.key s.rows place at (c.give-serial.ensures.serial place at),
      record {
        budget = ap (λ s. s.budget) c.self.view_is;
        history = c.push_reserved.ensures.items ∙ ap (λ s. s.history ++ entry ∷ []) c.self.view_is;
      },
    )
