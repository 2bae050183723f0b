use Rattle.std.proofs.Common.{◌≡◌, true, sym, subst, arith, ◌+◌, ◌-◌, ◌≤◌}
use Rattle.std.specs.Prelude.{vec_len, vec_capacity, Some, position, option_map, slice_get}
use Rattle.cache_core.specs.Rows.{is_running}
use Rattle.cache_core.specs.Core.{is_settled}
use Rattle.cache_table.specs.Kept.{is_kept}
use Rattle.cache_table.specs.Cache.{core_of}
use Rattle.cache_table.proofs.Keeping.{kept_from, room_in, item_from, need_within, running_is}
use Rattle.cache_table.proofs.Acting.{after_abandon}
use Rattle.cache_table.proofs.ledger.Ledger.abandon.Goals as goal

pub push_reserved-requires : goal.push_reserved-requires
push_reserved-requires g c =
    let s = c.self.inside in
    let place = c.requires.running.0 in
    let running = subst (λ s. option_map (λ kept. is_running c.args.pass kept.row.state) (slice_get s.rows place) ≡ Some true) (sym c.self.view_is) c.requires.running.2 in
    let item = item_from (λ kept. is_running c.args.pass kept.row.state) s.rows place true running in
    let need : 3 ≤ s.owed = omega (arith, need_within s.rows place item.0 item.1, running_is c.args.pass item.0.row.state item.2, c.self.invariant.owed_is) in
    omega (arith, need, c.self.invariant.room.within)

pub overflow_sub-self : goal.overflow_sub-self
overflow_sub-self g c =
    let s = c.self.inside in
    let place = c.requires.running.0 in
    let running = subst (λ s. option_map (λ kept. is_running c.args.pass kept.row.state) (slice_get s.rows place) ≡ Some true) (sym c.self.view_is) c.requires.running.2 in
    let item = item_from (λ kept. is_running c.args.pass kept.row.state) s.rows place true running in
    let need : 3 ≤ s.owed = omega (arith, need_within s.rows place item.0 item.1, running_is c.args.pass item.0.row.state item.2, c.self.invariant.owed_is) in
    omega (arith, need)

pub invariant_of-self : goal.invariant_of-self
invariant_of-self g c =
    let s = c.self.inside in
    let settled = subst (λ s. is_settled (core_of s).budget (core_of s).rows ≡ true) (sym c.self.view_is) c.requires.settled in
    let place = c.requires.running.0 in
    let at = subst (λ s. position (is_kept c.args.class c.args.key) s.rows ≡ Some place) (sym c.self.view_is) c.requires.running.1 in
    let running = subst (λ s. option_map (λ kept. is_running c.args.pass kept.row.state) (slice_get s.rows place) ≡ Some true) (sym c.self.view_is) c.requires.running.2 in
    let item = item_from (λ kept. is_running c.args.pass kept.row.state) s.rows place true running in
    let need : 3 ≤ s.owed = omega (arith, need_within s.rows place item.0 item.1, running_is c.args.pass item.0.row.state item.2, c.self.invariant.owed_is) in
    after_abandon s.budget s.history.items c.push_reserved.new.self.items s.rows c.take_out.new.self s.live s.owed (vec_len s.history) (vec_capacity s.history)
    (s.owed - 3) (vec_len c.push_reserved.new.self) (vec_capacity c.push_reserved.new.self) c.args.pass c.args.class c.args.key place
    c.self.invariant settled at running (omega (arith, need)) c.push_reserved.ensures.len
    (room_in (vec_len s.history + s.owed) _ (vec_capacity s.history) _ c.self.invariant.room (omega (arith, need, c.push_reserved.ensures.len)) (omega (arith, c.push_reserved.ensures.capacity))) c.push_reserved.ensures.items (c.take_out.ensures place at)

pub returns-clause-kept : goal.returns-clause-kept
returns-clause-kept g c =
    kept_from c.self.inside.budget c.push_reserved.new.self.items c.take_out.new.self c.self.inside.live (c.self.inside.owed - 3) (vec_len c.push_reserved.new.self) (vec_capacity c.push_reserved.new.self) (invariant_of-self g c)
