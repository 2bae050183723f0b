use Rattle.std.proofs.Common.{◌≡◌, true, sym, ◌∙◌, ap, refl, subst, arith, ◌++◌, ◌∷◌, [], ◌+◌}
use Rattle.std.specs.Prelude.{vec_len, vec_capacity, None, position}
use Rattle.cache_core.specs.Rows.{row_in}
use Rattle.cache_core.specs.Core.{is_settled}
use Rattle.cache_core.specs.declared.row.State.TheVariants.{Running}
use Rattle.cache_table.specs.Kept.{is_kept}
use Rattle.cache_table.specs.Cache.{core_of}
use Rattle.cache_table.proofs.Keeping.{kept_from, room_in}
use Rattle.cache_table.proofs.Acting.{after_start}
use Rattle.cache_core.specs.declared.entry.Act.TheVariants.{Start}
use Rattle.cache_table.proofs.ledger.Ledger.start.Goals as goal

pub invariant_of-self-2 : goal.invariant_of-self-2
invariant_of-self-2 g c =
    let s = c.self.inside in
    let settled = subst (λ s. is_settled (core_of s).budget (core_of s).rows ≡ true) (sym c.self.view_is) c.requires.settled in
    let absent = subst (λ s. position (is_kept c.args.class c.args.key) s.rows ≡ None) (sym c.self.view_is) c.requires.absent in
    after_start s.budget s.history.items c.push_reserved.new.self.items s.rows c.add.new.self s.live s.owed (vec_len s.history) (vec_capacity s.history)
    (s.owed + 3) (vec_len c.push_reserved.new.self) (vec_capacity c.push_reserved.new.self) c.args.pass c.args.class c.args.key
    c.self.invariant settled absent refl (omega (arith, c.push_reserved.ensures.len, c.reserve.ensures.len))
    (room_in (vec_len c.reserve.new.history + (s.owed + 4)) _ (vec_capacity c.reserve.new.history) _ c.in_ok-reserve.ensures.room (omega (arith, c.push_reserved.ensures.len)) (omega (arith, c.push_reserved.ensures.capacity)))
    (c.push_reserved.ensures.items ∙ ap (λ l. l ++ record { pass = c.args.pass; class = c.args.class; key = c.args.key; act = Start } ∷ []) c.reserve.ensures.items)
    (c.in_ok-add.ensures.ok ∙ ap (λ p. s.rows ++ record { row = row_in c.args.class c.args.key (Running p); value = None } ∷ []) c.in_ok-turn.ensures)

pub returns-clause-kept : goal.returns-clause-kept
returns-clause-kept g c =
    kept_from c.self.inside.budget c.push_reserved.new.self.items c.add.new.self c.self.inside.live (c.self.inside.owed + 3) (vec_len c.push_reserved.new.self) (vec_capacity c.push_reserved.new.self) (invariant_of-self-2 g c)
