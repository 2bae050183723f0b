use Rattle.std.proofs.Common.{◌+◌, ap, ◌∙◌, arith}
use Rattle.atomic_table.specs.Table.{Me}
use Rattle.frame_claims.specs.Claims.{Claims}
use Rattle.frame_claims.specs.declared.rule.Span.{Span}
use Rattle.frame_claims.proofs.Seats.{own_table, may_look, may_draw}
use Rattle.frame_claims.proofs.Claiming.{Ends, Takes, shown_marked, count_is, ends, takes}
use Rattle.frame_claims.proofs.claims.Claims.claim.Goals as goal

pub load-requires : goal.load-requires
load-requires c =
    let p = c.seat.inside.seat in
    let shared = c.self.inside.table.shared in (
      own_table p shared.table_id c.args.seat.now c.args.self.now c.seat.view_is (ap (λ (x : Claims). x.id) c.self.view_is) c.requires.own,
      omega (arith, c.self.invariant.words),
      may_look shared.key shared.table_id.slots p.id p.me c.seat.invariant.hand c.seat.invariant.idle,
    )

-- a look that found the end
look_ends : (c : goal.Then-load-count) → Ends c.args.self.now c.args.seat.now c.load.new.seat.me.0.draws
look_ends c =
    let p = c.seat.inside.seat in
    let count = count_is c.args.self.now p.table_id p.me.0 c.args.seat.now c.seat.view_is c.requires.own c.load.result c.load.ensures.2.0 in
    let span = ap (λ (x : Claims). x.count) c.self.view_is in
    let late = c.if-load-count.true in
    let from = c.from-count.ensures in
    ends c.args.self.now p.table_id p.me.0 c.args.seat.now c.seat.view_is c.requires.own c.load.result c.load.ensures.2.0
    (omega (arith, late, from, count, span)) c.load.new.seat.me c.load.ensures.2.2

pub returns-then-load-count-clause-once : goal.returns-then-load-count-clause-once
returns-then-load-count-clause-once c = (look_ends c).once

pub returns-then-load-count-clause-few : goal.returns-then-load-count-clause-few
returns-then-load-count-clause-few c = (look_ends c).few

pub returns-then-load-count-clause-next : goal.returns-then-load-count-clause-next
returns-then-load-count-clause-next c = (look_ends c).next

pub returns-then-load-count-clause-all : goal.returns-then-load-count-clause-all
returns-then-load-count-clause-all c = λ alone _. (look_ends c).all alone

pub fetch_add-found-requires : goal.fetch_add-found-requires
fetch_add-found-requires c =
    let p = c.seat.inside.seat in
    let shared = c.self.inside.table.shared in
    let count = count_is c.args.self.now p.table_id p.me.0 c.args.seat.now c.seat.view_is c.requires.own c.load.result c.load.ensures.2.0 in
    let span = ap (λ (x : Claims). x.count) c.self.view_is in
    let fits = c.self.invariant.fits in
    let key = ap (λ (x : Span). x.count) c.self.invariant.key_is in
    let left = c.if-load-count.false in
    let from = c.from-count.ensures in
    let after = c.load.ensures.2.1 (omega (arith, left, from, count, span)) in (
      c.load.ensures.0 ∙ own_table p shared.table_id c.args.seat.now c.args.self.now c.seat.view_is (ap (λ (x : Claims). x.id) c.self.view_is) c.requires.own,
      omega (arith, c.self.invariant.words),
      may_draw shared.key shared.table_id.slots c.load.new.seat.id c.load.new.seat.me (ap (λ (m : Me _ _). m.1) after) (omega (arith, key, fits)) (ap (λ (m : Me _ _). m.0.stage) after),
    )

-- a draw that came too late
draw_ends : (c : goal.Then-found-count) → Ends c.args.self.now c.args.seat.now c.fetch_add-found.new.seat.me.0.draws
draw_ends c =
    let p = c.seat.inside.seat in
    let q = c.load.new.seat in
    let count = count_is c.args.self.now p.table_id p.me.0 c.args.seat.now c.seat.view_is c.requires.own c.load.result c.load.ensures.2.0 in
    let span = ap (λ (x : Claims). x.count) c.self.view_is in
    let left = c.if-load-count.false in
    let late = c.if-found-count.true in
    let from = c.from-count.ensures in
    let after = c.load.ensures.2.1 (omega (arith, left, from, count, span)) in
    let is = shown_marked p.table_id q.table_id p.me.0 q.me c.args.seat.now c.load.ensures.0 after c.seat.view_is in
    let count' = count_is c.args.self.now q.table_id q.me.0 c.args.seat.now is c.requires.own c.fetch_add-found.result c.fetch_add-found.ensures.2.0 in
    ends c.args.self.now q.table_id q.me.0 c.args.seat.now is c.requires.own c.fetch_add-found.result c.fetch_add-found.ensures.2.0
    (omega (arith, late, from, count', span)) c.fetch_add-found.new.seat.me c.fetch_add-found.ensures.2.2

pub returns-then-found-count-clause-once : goal.returns-then-found-count-clause-once
returns-then-found-count-clause-once c = (draw_ends c).once

pub returns-then-found-count-clause-few : goal.returns-then-found-count-clause-few
returns-then-found-count-clause-few c = (draw_ends c).few

pub returns-then-found-count-clause-next : goal.returns-then-found-count-clause-next
returns-then-found-count-clause-next c = (draw_ends c).next

pub returns-then-found-count-clause-all : goal.returns-then-found-count-clause-all
returns-then-found-count-clause-all c = λ alone _. (draw_ends c).all alone

-- a draw of a number
draw_takes : (c : goal.Else-found-count) → Takes c.args.self.now c.args.seat.now (c.self.inside.span.first + c.fetch_add-found.result) c.fetch_add-found.new.seat.me.0.draws
draw_takes c =
    let p = c.seat.inside.seat in
    let q = c.load.new.seat in
    let count = count_is c.args.self.now p.table_id p.me.0 c.args.seat.now c.seat.view_is c.requires.own c.load.result c.load.ensures.2.0 in
    let span = ap (λ (x : Claims). x.count) c.self.view_is in
    let left = c.if-load-count.false in
    let in_time = c.if-found-count.false in
    let from = c.from-count.ensures in
    let after = c.load.ensures.2.1 (omega (arith, left, from, count, span)) in
    let is = shown_marked p.table_id q.table_id p.me.0 q.me c.args.seat.now c.load.ensures.0 after c.seat.view_is in
    let count' = count_is c.args.self.now q.table_id q.me.0 c.args.seat.now is c.requires.own c.fetch_add-found.result c.fetch_add-found.ensures.2.0 in
    takes c.args.self.now q.table_id q.me.0 c.args.seat.now is c.requires.own c.fetch_add-found.result c.fetch_add-found.ensures.2.0
    (omega (arith, in_time, from, count', span)) c.fetch_add-found.new.seat.me (c.self.inside.span.first + c.fetch_add-found.result) c.fetch_add-found.ensures.2.1
    (ap (λ (x : Claims). x.first + c.fetch_add-found.result) c.self.view_is)

pub returns-clause-numbers : goal.returns-clause-numbers
returns-clause-numbers c = (draw_takes c).numbers

pub returns-clause-once : goal.returns-clause-once
returns-clause-once c = (draw_takes c).once

pub returns-clause-few : goal.returns-clause-few
returns-clause-few c = (draw_takes c).few

pub returns-clause-next : goal.returns-clause-next
returns-clause-next c = (draw_takes c).next
