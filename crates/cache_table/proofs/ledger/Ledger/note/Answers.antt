use Rattle.std.proofs.Common.{◌≡◌, true, sym, ◌∙◌, ap, refl, subst, arith, ◌++◌, ◌∷◌, [], ◌+◌}
use Rattle.std.specs.Prelude.{vec_len, vec_capacity}
use Rattle.cache_core.specs.Core.{may_step, rows_after}
use Rattle.cache_table.specs.Cache.{core_of}
use Rattle.cache_table.proofs.Keeping.{kept_from, ledger_more, room_in}
use Rattle.cache_table.proofs.ledger.Ledger.note.Goals as goal

pub invariant_of-self-2 : goal.invariant_of-self-2
invariant_of-self-2 g c =
    let s = c.self.inside in
    let e = c.args.entry in
    let may = subst (λ s. may_step (core_of s) e ≡ true) (sym c.self.view_is) c.requires.steps in
    let plain = subst (λ s. rows_after e.pass e.class e.key e.act (core_of s).rows ≡ (core_of s).rows) (sym c.self.view_is) c.requires.plain in
    ledger_more s.budget s.history.items c.push_reserved.new.self.items s.rows s.rows s.rows s.live s.owed (vec_len s.history) (vec_capacity s.history)
    s.live s.owed (vec_len c.push_reserved.new.self) (vec_capacity c.push_reserved.new.self) e c.self.invariant may (sym plain)
    c.self.invariant.live_is (omega arith) c.self.invariant.owed_is c.self.invariant.valued (omega (arith, c.push_reserved.ensures.len, c.reserve.ensures.len))
    (room_in (vec_len c.reserve.new.history + (s.owed + 1)) _ (vec_capacity c.reserve.new.history) _ c.in_ok-reserve.ensures.room (omega (arith, c.push_reserved.ensures.len)) (omega (arith, c.push_reserved.ensures.capacity)))
    (c.push_reserved.ensures.items ∙ ap (λ l. l ++ e ∷ []) c.reserve.ensures.items) refl

pub returns-clause-kept : goal.returns-clause-kept
returns-clause-kept g c =
    kept_from c.self.inside.budget c.push_reserved.new.self.items c.self.inside.rows c.self.inside.live c.self.inside.owed (vec_len c.push_reserved.new.self) (vec_capacity c.push_reserved.new.self) (invariant_of-self-2 g c)
