use Rattle.std.proofs.Common.{◌≡◌, true, sym, ◌∙◌, ap, refl, subst, arith, ◌++◌, ◌∷◌, [], ◌+◌}
use Rattle.std.specs.Prelude.{vec_len, vec_capacity, Some, position, option_map, slice_get}
use Rattle.cache_core.specs.Core.{is_settled}
use Rattle.cache_table.specs.Kept.{is_kept}
use Rattle.cache_table.specs.Cache.{core_of, is_any_live}
use Rattle.cache_table.proofs.Keeping.{kept_from}
use Rattle.cache_table.proofs.Keeping.{room_in}
use Rattle.cache_table.proofs.Acting.{after_hit}
use Rattle.cache_core.specs.declared.entry.Act.TheVariants.{Hit}
use Rattle.cache_table.proofs.ledger.Ledger.take.Goals as goal

pub invariant_of-self-2 : goal.invariant_of-self-2
invariant_of-self-2 g c =
    let s = c.self.inside in
    let settled = subst (λ s. is_settled (core_of s).budget (core_of s).rows ≡ true) (sym c.self.view_is) c.requires.settled in
    let place = c.requires.live.0 in
    let at = subst (λ s. position (is_kept c.args.class c.args.key) s.rows ≡ Some place) (sym c.self.view_is) c.requires.live.1 in
    let live = subst (λ s. option_map (λ kept. is_any_live kept.row.state) (slice_get s.rows place) ≡ Some true) (sym c.self.view_is) c.requires.live.2 in
    let serial = c.in_ok-serial.serial in
    after_hit s.budget s.history.items c.push_reserved.new.self.items s.rows c.take.new.self s.live s.owed (vec_len s.history) (vec_capacity s.history)
    (s.owed + 1) (vec_len c.push_reserved.new.self) (vec_capacity c.push_reserved.new.self) c.args.pass c.args.class c.args.key serial place
    c.self.invariant settled at live
    (c.in_ok-serial.ensures.serial place at)
    refl (omega (arith, c.push_reserved.ensures.len, c.reserve.ensures.len))
    (room_in (vec_len c.reserve.new.history + (s.owed + 2)) _ (vec_capacity c.reserve.new.history) _ c.in_ok-reserve.ensures.room (omega (arith, c.push_reserved.ensures.len)) (omega (arith, c.push_reserved.ensures.capacity)))
    (c.push_reserved.ensures.items ∙ ap (λ l. l ++ record { pass = c.args.pass; class = c.args.class; key = c.args.key; act = Hit serial } ∷ []) c.reserve.ensures.items)
    (c.in_ok-serial.ensures.rows place at)

pub returns-clause-kept : goal.returns-clause-kept
returns-clause-kept g c =
    kept_from c.self.inside.budget c.push_reserved.new.self.items c.take.new.self c.self.inside.live (c.self.inside.owed + 1) (vec_len c.push_reserved.new.self) (vec_capacity c.push_reserved.new.self) (invariant_of-self-2 g c)
