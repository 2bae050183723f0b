use Rattle.std.proofs.Common.{sym, ap, ◌∙◌, subst, subst₂, arith, ◌∷◌, ◌++◌}
use Rattle.std.specs.Prelude.{Some}
use Rattle.atomic_table.specs.Table.{Me, rest}
use Rattle.turn_lock.specs.Entries.{AreOf, Begins, entries_of}
use Rattle.cache_core.specs.History.{IsLegal}
use Rattle.turn_lock.specs.Lock.{Lock, Pass}
use Rattle.turn_lock.proofs.Histories.{begins-trans, entries-more_own}
use Rattle.turn_lock.proofs.Passes.{held_hand, own_table, may_put}
use Rattle.turn_lock.proofs.lock.TurnLock.put.Goals as goal

pub store-requires : goal.store-requires
store-requires g c =
    let h = g.S.History in
    let p = c.pass.inside in
    let me = p.seat.me in
    let shared = c.self.inside.table.shared in
    let id = own_table p.seat shared.table_id shared.key.value c.args.pass.now c.args.self.now c.pass.view_is c.self.view_is c.requires.own in
    let origin = ap (λ (l : Lock _). l.origin) c.self.view_is in
    let t = c.requires.taken in
    let hand = held_hand me.0.stage t.0 me.0.number me.0.seen me.0.mine me.1 (ap (λ (x : Pass _). x.taken) c.pass.view_is ∙ t.2) c.pass.invariant.hand in (
      c.exchange-empty.ensures.0 ∙ id,
      omega (arith, c.self.invariant.0),
      may_put h.budget h.log h.name shared.key.value shared.table_id.slots c.exchange-empty.new.seat.id c.entries-entries.result c.exchange-empty.new.seat.me me c.args.state t.0 t.1
          c.self.invariant.1 c.entries-entries.ensures.count c.exchange-empty.ensures.3 hand.hand_is hand.stage_is t.3
          (subst (λ (x : Pass _). AreOf x.number t.1) (sym c.pass.view_is) t.4)
          (c.requires.budget ∙ ap h.budget (sym origin)) (c.requires.name ∙ ap h.name (sym origin))
          (subst (λ o. IsLegal (h.budget o) (h.log c.args.state)) (sym origin) c.requires.legal) c.entries-entries.ensures.few,
    )

pub returns-clause-mine : goal.returns-clause-mine
returns-clause-mine g c = λ taken added t more of_own.
    let h = g.S.History in
    let me = c.pass.inside.seat.me in
    let hand = held_hand me.0.stage taken me.0.number me.0.seen me.0.mine me.1 (ap (λ (x : Pass _). x.taken) c.pass.view_is ∙ t) c.pass.invariant.hand in
    let held = c.exchange-empty.ensures.3 in
    let full = ap (λ (m : Me _ _). m.1) held ∙ ap (λ l. (0, Some c.args.state) ∷ rest l) hand.hand_is in
    ap (λ (m : Me _ _). m.0.mine) (c.store.ensures.2 c.args.state full)
    ∙ ap (λ (m : Me _ _). entries_of m.0.number (h.log c.args.state)) held
    ∙ entries-more_own me.0.number taken added (h.log c.args.state) me.0.mine more (subst (λ (x : Pass _). AreOf x.number added) (sym c.pass.view_is) of_own) hand.own
    ∙ ap (λ (x : Pass _). x.mine ++ added) c.pass.view_is

pub returns-clause-begins : goal.returns-clause-begins
returns-clause-begins g c =
    let h = g.S.History in
    let me = c.pass.inside.seat.me in
    let t = c.requires.taken in
    let hand = held_hand me.0.stage t.0 me.0.number me.0.seen me.0.mine me.1 (ap (λ (x : Pass _). x.taken) c.pass.view_is ∙ t.2) c.pass.invariant.hand in
    let full = ap (λ (m : Me _ _). m.1) c.exchange-empty.ensures.3 ∙ ap (λ l. (0, Some c.args.state) ∷ rest l) hand.hand_is in
    subst₂ Begins (ap (λ (x : Pass _). x.seen) c.pass.view_is) (sym (ap (λ (m : Me _ _). m.0.seen) (c.store.ensures.2 c.args.state full)))
    (begins-trans me.0.seen t.0 (h.log c.args.state) hand.begins (t.1, t.3))
