use Rattle.std.proofs.Common.{◌≡◌, true, None, IfNone, sym, subst, ap, arith}
use Rattle.std.proofs.lemmas.Result.{IfOk-at_ok}
use Rattle.frame_claims.specs.Claims.{Seat, ending}
use Rattle.frame_worker.specs.Window.{AreDrawn}
use Rattle.frame_worker.proofs.Moves.{of_left, of_jobs}
use Rattle.frame_worker.proofs.Order.{window_of}
use Rattle.frame_worker.proofs.window.make_claimed.Goals as goal

pub run_all-pieces-requires-clause-fit : goal.run_all-pieces-requires-clause-fit
run_all-pieces-requires-clause-fit g c κs within =
    of_jobs (λ job. job.seat) (g.F.FrameMaker.fit c.args.maker.now) c.args.seats.now.items c.seat_all.new.seats.items c.in_ok-jobs.jobs.items c.in_ok-jobs.ensures.moved c.requires.fit

pub run_all-pieces-requires-clause-seats : goal.run_all-pieces-requires-clause-seats
run_all-pieces-requires-clause-seats g c κs within =
    of_left (λ job. job.seat) (g.F.FrameMaker.fit c.args.maker.now) c.args.seats.now.items c.seat_all.new.seats.items c.in_ok-jobs.jobs.items c.in_ok-jobs.ensures.moved c.requires.fit

pub returns-clause-pieces : goal.returns-clause-pieces
returns-clause-pieces g c =
    let opening = c.run_all-pieces.new.opening in
    let none : c.claim-left.result ≡ None = c.claim-left.ensures.ended (IfOk-at_ok (λ _. opening.ended ≡ true) c.in_ok-pieces.was c.run_all-pieces.ensures.ended) in
    let new : c.claim-left.new.seat ≡ ending opening = subst (λ left. IfNone left (c.claim-left.new.seat ≡ ending opening)) none c.claim-left.ensures.none in
    let awaits = c.run_all-pieces.ensures.opening in
    window_of (g.F.FrameMaker.gives c.args.maker.now) c.args.claims.now opening c.claim-left.new.seat.draws c.in_ok-pieces.pieces.items c.in_order.result.items
    (IfOk-at_ok (λ pieces. AreDrawn (g.F.FrameMaker.gives c.args.maker.now) opening pieces.items) c.in_ok-pieces.was c.run_all-pieces.ensures.pieces)
    (sym (ap (λ (seat : Seat). seat.draws) new)) c.claim-left.ensures.numbers c.claim-left.ensures.once
    (c.claim-left.ensures.all (record { opening = awaits.opening; last = omega (arith, awaits.made) }) none)
    c.in_order.ensures.permutation c.in_order.ensures.order
