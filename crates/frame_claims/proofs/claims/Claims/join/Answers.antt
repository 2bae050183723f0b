use Rattle.std.proofs.Common.{sym, ap, ◌∙◌, subst, arith}
use Rattle.atomic_table.specs.Table.{Me}
use Rattle.frame_claims.specs.Claims.{Claims, Seat, AreOnce}
use Rattle.frame_claims.specs.Rule.{is_live, is_live_stage}
use Rattle.frame_claims.proofs.Seats.{own_table, may_ask}
use Rattle.frame_claims.proofs.Joining.{joins}
use Rattle.frame_claims.proofs.claims.Claims.join.Goals as goal

pub join_seat-requires : goal.join_seat-requires
join_seat-requires c =
    let p = c.seat.inside.seat in
    let o = c.other.inside.seat in
    let shared = c.self.inside.table.shared in
    let id = ap (λ (x : Claims). x.id) c.self.view_is in (
      own_table p shared.table_id c.args.seat.now c.args.self.now c.seat.view_is id c.requires.own,
      own_table o shared.table_id c.args.other c.args.self.now c.other.view_is id c.requires.other_own,
      c.other.invariant.hand,
      omega (arith, c.self.invariant.words),
      joins shared.key p.id o.id p.me.0 o.me.0 c.seat.invariant.idle (ap (λ (x : Seat). x.opening) c.seat.view_is ∙ c.requires.opening)
          c.other.invariant.idle (ap (λ (x : Seat). x.opening) c.other.view_is ∙ c.requires.other),
    )

pub load-requires : goal.load-requires
load-requires c =
    let p = c.seat.inside.seat in
    let shared = c.self.inside.table.shared in
    let made = c.join_seat.ensures in (
      made.0 ∙ own_table p shared.table_id c.args.seat.now c.args.self.now c.seat.view_is (ap (λ (x : Claims). x.id) c.self.view_is) c.requires.own,
      omega (arith, c.self.invariant.words),
      may_ask shared.key shared.table_id.slots c.join_seat.new.seat.id c.join_seat.new.seat.me (ap (λ (m : Me _ _). m.1) made.2 ∙ c.seat.invariant.hand)
          (ap (λ (m : Me _ _). is_live m.0) made.2 ∙ ap is_live_stage c.seat.invariant.idle),
    )

pub returns-clause-once : goal.returns-clause-once
returns-clause-once c = subst AreOnce (sym (ap (λ (m : Me _ _). m.0.draws) c.load.ensures.2.0)) c.load.ensures.2.1.once
