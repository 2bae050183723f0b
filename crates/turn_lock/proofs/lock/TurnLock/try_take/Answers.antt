use Rattle.std.proofs.Common.{sym, ap, ◌∙◌, arith, ◌∷◌}
use Rattle.std.specs.Prelude.{Some}
use Rattle.atomic_table.specs.Table.{Me, rest}
use Rattle.turn_lock.specs.Lock.{Pass}
use Rattle.turn_lock.proofs.Passes.{free_hand, own_table, may_take}
use Rattle.turn_lock.proofs.lock.TurnLock.try_take.Goals as goal

pub compare_exchange-requires : goal.compare_exchange-requires
compare_exchange-requires g c =
    let h = g.S.History in
    let p = c.pass.inside in
    let me = p.seat.me in
    let shared = c.self.inside.table.shared in
    let id = own_table p.seat shared.table_id shared.key.value c.args.pass.now c.args.self.now c.pass.view_is c.self.view_is c.requires.own in
    let taken = ap (λ (x : Pass _). x.taken) c.pass.view_is ∙ c.requires.free in
    let hand = free_hand me.0.stage me.0.number me.0.seen me.0.mine me.1 taken c.pass.invariant.hand in (
      id,
      omega (arith, c.self.invariant.0),
      may_take h.budget h.log h.name shared.key.value shared.table_id.slots p.seat.id c.peek-free.result me c.self.invariant.1 (omega arith) hand.0 hand.1,
    )

pub exchange-requires : goal.exchange-requires
exchange-requires g c =
    let p = c.pass.inside in
    let shared = c.self.inside.table.shared in
    let id = own_table p.seat shared.table_id shared.key.value c.args.pass.now c.args.self.now c.pass.view_is c.self.view_is c.requires.own in
    let t = c.compare_exchange.ensures.2.0 c.if-compare_exchange-free.false in
    let hand = ap (λ (m : Me _ _). m.1) t.1 in (
      c.compare_exchange.ensures.0 ∙ id,
      (Some t.0, hand ∙ ap (λ l. (0, Some t.0) ∷ rest l) (sym hand)),
    )
