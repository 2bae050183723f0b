use Rattle.std.proofs.Common.{sym, ap, ◌∙◌, subst, arith}
use Rattle.atomic_table.specs.Table.{Me}
use Rattle.cache_core.specs.History.{IsLegal}
use Rattle.turn_lock.specs.Entries.{IsClear}
use Rattle.turn_lock.specs.Lock.{Pass}
use Rattle.turn_lock.specs.Rule.{is_live}
use Rattle.turn_lock.specs.Told.{IsState}
use Rattle.turn_lock.proofs.Passes.{free_hand, own_table, may_look}
use Rattle.turn_lock.proofs.Joining.{joins}
use Rattle.turn_lock.proofs.lock.TurnLock.join.Goals as goal

pub join_seat-requires : goal.join_seat-requires
join_seat-requires g c =
    let h = g.S.History in
    let p = c.pass.inside in
    let o = c.other.inside in
    let shared = c.self.inside.table.shared in
    let origin = shared.key.value in
    let id = own_table p.seat shared.table_id origin c.args.pass.now c.args.self.now c.pass.view_is c.self.view_is c.requires.own in
    let other_id = own_table o.seat shared.table_id origin c.args.other c.args.self.now c.other.view_is c.self.view_is c.requires.other_own in
    let hand = free_hand p.seat.me.0.stage p.seat.me.0.number p.seat.me.0.seen p.seat.me.0.mine p.seat.me.1 (ap (λ (x : Pass _). x.taken) c.pass.view_is ∙ c.requires.free) c.pass.invariant.hand in
    let other_hand = free_hand o.seat.me.0.stage o.seat.me.0.number o.seat.me.0.seen o.seat.me.0.mine o.seat.me.1 (ap (λ (x : Pass _). x.taken) c.other.view_is ∙ c.requires.other_free) c.other.invariant.hand in (
      id,
      other_id,
      other_hand.1,
      omega (arith, c.self.invariant.0),
      joins (IsLegal (h.budget origin)) IsClear (IsState h.budget h.log h.name origin) origin p.seat.id o.seat.id p.seat.me.0 o.seat.me.0 hand.0
          (ap (λ (x : Pass _). x.number) c.pass.view_is ∙ c.requires.opening) other_hand.0 (subst (λ (x : Pass _). IsClear x.mine) (sym c.other.view_is) c.requires.other_clear),
    )

pub load-requires : goal.load-requires
load-requires g c =
    let h = g.S.History in
    let p = c.pass.inside in
    let shared = c.self.inside.table.shared in
    let id = own_table p.seat shared.table_id shared.key.value c.args.pass.now c.args.self.now c.pass.view_is c.self.view_is c.requires.own in
    let hand = free_hand p.seat.me.0.stage p.seat.me.0.number p.seat.me.0.seen p.seat.me.0.mine p.seat.me.1 (ap (λ (x : Pass _). x.taken) c.pass.view_is ∙ c.requires.free) c.pass.invariant.hand in
    let made = c.join_seat.ensures in (
      made.0 ∙ id,
      omega (arith, c.self.invariant.0),
      may_look h.budget h.log h.name shared.key.value shared.table_id.slots c.join_seat.new.seat.id c.join_seat.new.seat.me c.self.invariant.1
          (ap (λ (m : Me _ _). is_live m.0) made.2) (ap (λ (m : Me _ _). m.1) made.2 ∙ hand.1),
    )
