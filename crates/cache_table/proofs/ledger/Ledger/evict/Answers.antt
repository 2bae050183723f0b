use Rattle.std.proofs.Common.{◌≡◌, true, sym, ◌∙◌, ap, refl, subst, arith, ◌++◌, ◌∷◌, [], ◌+◌, ◌-◌, ◌≤◌}
use Rattle.std.specs.Prelude.{vec_len, vec_capacity, Some, None, map, slice_get}
use Rattle.cache_core.specs.Rows.{size_of}
use Rattle.cache_core.specs.Core.{is_settled}
use Rattle.cache_table.specs.Kept.{without_kept}
use Rattle.cache_core.specs.declared.entry.Entry.{Entry}
use Rattle.cache_table.proofs.Keeping.{kept_from, room_in, size_within, through, same_item, need_within, idle_is, idle_place}
use Rattle.cache_table.proofs.Acting.{after_evict, evicted_at}
use Rattle.cache_table.proofs.Settling.{next_none, next_over}
use Rattle.cache_core.specs.declared.entry.Act.TheVariants.{Evict}
use Rattle.cache_table.proofs.ledger.Ledger.evict.Goals as goal

pub returns-in-None-clause-settled : goal.returns-in-None-clause-settled
returns-in-None-clause-settled g c = λ _.
    let s = c.self.inside in
    subst (λ rows. is_settled s.budget (map (λ kept. kept.row) rows) ≡ true) (sym c.in-None.ensures.same) (next_none s.budget s.rows None (sym c.in-None.ensures.none))

pub overflow_sub-self : goal.overflow_sub-self
overflow_sub-self g c =
    let s = c.self.inside in
    let gone = c.in-Some.gone in
    let out = c.in-Some.ensures.some in
    let place = out.0 in
    let over = next_over s.budget s.rows (Some place) (sym out.1) (omega (arith, c.from.ensures, c.if-self-from.false, c.self.invariant.live_is)) in
    let item = idle_place s.rows place out.1 in
    let is = idle_is item.0.row.state item.2 in
    let need : 1 ≤ s.owed = omega (arith, need_within s.rows place item.0 item.1, is.0, c.self.invariant.owed_is) in
    let size : size_of item.0.row.state ≡ gone.size = same_item (λ kept. size_of kept.row.state) s.rows place item.0 gone.size item.1 out.6 in
    let within : gone.size ≤ s.live = omega (arith, size, size_within s.rows place item.0 item.1, c.self.invariant.live_is) in
    omega (arith, within, c.from-in-Some.ensures)

pub invariant_of-self : goal.invariant_of-self
invariant_of-self g c =
    let s = c.self.inside in
    let gone = c.in-Some.gone in
    let out = c.in-Some.ensures.some in
    let place = out.0 in
    let over = next_over s.budget s.rows (Some place) (sym out.1) (omega (arith, c.from.ensures, c.if-self-from.false, c.self.invariant.live_is)) in
    let item = idle_place s.rows place out.1 in
    let is = idle_is item.0.row.state item.2 in
    let need : 1 ≤ s.owed = omega (arith, need_within s.rows place item.0 item.1, is.0, c.self.invariant.owed_is) in
    let size : size_of item.0.row.state ≡ gone.size = same_item (λ kept. size_of kept.row.state) s.rows place item.0 gone.size item.1 out.6 in
    let within : gone.size ≤ s.live = omega (arith, size, size_within s.rows place item.0 item.1, c.self.invariant.live_is) in
    after_evict s.budget s.history.items c.push_reserved.new.self.items s.rows c.take_out_idle.new.self s.live s.owed (vec_len s.history) (vec_capacity s.history)
    (s.live - c.from-in-Some.result) (s.owed - 1) (vec_len c.push_reserved.new.self) (vec_capacity c.push_reserved.new.self) c.args.pass gone.name.class gone.name.key gone.serial place
    c.self.invariant over out.1 out.3 out.4 out.5
    (through (λ n. s.live - c.from-in-Some.result + n) (λ kept. size_of kept.row.state) (slice_get s.rows place) gone.size s.live out.6 (omega (arith, within, c.from-in-Some.ensures)))
    (omega (arith, need)) c.push_reserved.ensures.len
    (room_in (vec_len s.history + s.owed) _ (vec_capacity s.history) _ c.self.invariant.room (omega (arith, need, c.push_reserved.ensures.len)) (omega (arith, c.push_reserved.ensures.capacity))) c.push_reserved.ensures.items out.2

pub returns-in-Some-clause-adds : goal.returns-in-Some-clause-adds
returns-in-Some-clause-adds g c = λ _.
    let s = c.self.inside in
    let gone = c.in-Some.gone in
    let out = c.in-Some.ensures.some in
    let entry : Entry = record { pass = c.args.pass; class = gone.name.class; key = gone.name.key; act = Evict gone.serial } in (
      entry,
      (refl, (gone.serial, refl)),
      record {
        budget = ap (λ s. s.budget) c.self.view_is;
        history = c.push_reserved.ensures.items ∙ ap (λ s. s.history ++ entry ∷ []) c.self.view_is;
      },
      out.2
          ∙ evicted_at s.budget s.history.items s.rows s.live s.owed (vec_len s.history) (vec_capacity s.history) gone.name.class gone.name.key out.0 c.self.invariant out.1 out.3 out.4
          ∙ ap (λ s. without_kept gone.name.class gone.name.key s.rows) c.self.view_is,
    )

pub returns-in-Some-clause-kept : goal.returns-in-Some-clause-kept
returns-in-Some-clause-kept g c =
    kept_from c.self.inside.budget c.push_reserved.new.self.items c.take_out_idle.new.self (c.self.inside.live - c.from-in-Some.result) (c.self.inside.owed - 1) (vec_len c.push_reserved.new.self) (vec_capacity c.push_reserved.new.self) (invariant_of-self g c)
