use Rattle.std.proofs.Common.{ap, ◌∙◌, arith}
use Rattle.atomic_table.specs.Table.{Me}
use Rattle.cache_core.specs.History.{IsLegal}
use Rattle.turn_lock.specs.Entries.{IsClear}
use Rattle.turn_lock.specs.Lock.{Pass}
use Rattle.turn_lock.specs.Rule.{is_live}
use Rattle.turn_lock.specs.Told.{IsState}
use Rattle.turn_lock.proofs.Passes.{free_hand, own_table, may_look}
use Rattle.turn_lock.proofs.Splitting.{splits}
use Rattle.turn_lock.proofs.lock.TurnLock.split.Goals as goal

pub split_seat-seat-requires : goal.split_seat-seat-requires
split_seat-seat-requires g c =
    let h = g.S.History in
    let p = c.pass.inside in
    let me = p.seat.me in
    let shared = c.self.inside.table.shared in
    let origin = shared.key.value in
    let id = own_table p.seat shared.table_id origin c.args.pass.now c.args.self.now c.pass.view_is c.self.view_is c.requires.own in
    let hand = free_hand me.0.stage me.0.number me.0.seen me.0.mine me.1 (ap (λ (x : Pass _). x.taken) c.pass.view_is ∙ c.requires.free) c.pass.invariant.hand in (
      id,
      omega (arith, c.self.invariant.0),
      splits (IsLegal (h.budget origin)) IsClear (IsState h.budget h.log h.name origin) origin p.seat.id me.0 hand.0 (ap (λ (x : Pass _). x.number) c.pass.view_is ∙ c.requires.opening),
    )

pub load-requires : goal.load-requires
load-requires g c =
    let h = g.S.History in
    let p = c.pass.inside in
    let shared = c.self.inside.table.shared in
    let id = own_table p.seat shared.table_id shared.key.value c.args.pass.now c.args.self.now c.pass.view_is c.self.view_is c.requires.own in
    let made = c.split_seat-seat.ensures in (
      made.3 ∙ id,
      omega (arith, c.self.invariant.0),
      may_look h.budget h.log h.name shared.key.value shared.table_id.slots c.split_seat-seat.result.id c.split_seat-seat.result.me c.self.invariant.1
          (ap (λ (m : Me _ _). is_live m.0) made.4) (ap (λ (m : Me _ _). m.1) made.4),
    )
