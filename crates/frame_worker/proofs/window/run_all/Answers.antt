use Rattle.std.proofs.Common.{OnOk, true, ◌≡◌, rules}
use Rattle.std.proofs.lemmas.Result.{IfOk-weaker}
use Rattle.frame_worker.specs.Window.{IsFurther, AreDrawn}
use Rattle.frame_worker.proofs.Moves.{ended_more, drawn_more, popped, pushed}
use Rattle.frame_worker.proofs.window.run_all.Goals as goal

pub jobs-preserved : goal.jobs-preserved
jobs-preserved g c =
    let now = c.jobs.invariant in
    let claim = popped (λ job. IsFurther c.args.claims.now job.claim) _ _ _ _ c.pop.ensures.items c.in-Some.is now.claim in
    let fit = popped (λ job. g.F.FrameMaker.fit c.args.maker.now job.seat) _ _ _ _ c.pop.ensures.items c.in-Some.is now.fit in
    let ended = popped (λ job. OnOk job.done (job.claim.ended ≡ true)) _ _ _ _ c.pop.ensures.items c.in-Some.is now.job_ended in
    let pieces = popped (λ job. OnOk job.done (AreDrawn (g.F.FrameMaker.gives c.args.maker.now) job.claim job.made.items)) _ _ _ _ c.pop.ensures.items c.in-Some.is now.job_pieces in
    let opening = c.jobs.opening in
    let other = c.in-Some.job.claim in
    let new = c.join.new.seat in
    let more = c.add_made-pieces in
    record {
      opening = search rules;
      claim = claim.0;
      fit = fit.0;
      job_ended = ended.0;
      job_pieces = pieces.0;
      seats = pushed (g.F.FrameMaker.fit c.args.maker.now) c.jobs.seats.items c.push_reserved.new.self.items c.in-Some.job.seat c.push_reserved.ensures.items now.seats fit.1;
      len = search rules;
      room = search rules;
      ended = IfOk-weaker more.result (λ _. new.ended ≡ true) _ (λ _ e _. e) (ended_more opening other new c.join.ensures.seat more.result c.in-Some.job.done more.ensures.done ended.1);
      pieces = drawn_more opening other new c.join.ensures.seat (g.F.FrameMaker.gives c.args.maker.now) (λ v. v.items)
          more.result c.jobs.pieces c.in-Some.job.done c.in-Some.job.made.items more.ensures.others more.ensures.done more.ensures.items now.pieces pieces.1;
    }
