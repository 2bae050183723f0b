use Rattle.std.proofs.Common.{◌≡◌, ◌+◌, ◌<◌, ◌≤◌, true, All, IfOk, OnOk, vec_len, vec_capacity}
use Rattle.frame_worker.specs.Window.{Awaits, IsFurther, AreDrawn}
use Rattle.frame_worker.proofs.window.run_all.Given as goal

-- the opening seat has drawn what the jobs so far made, and awaits the others; and there is room for their seats
abbrev pub invariant-jobs : goal.invariant-jobs
invariant-jobs g l = record {
  opening : Awaits l.claims (vec_len l.jobs) l.opening;
  claim : All (λ job. IsFurther l.claims job.claim) l.jobs.items;
  fit : All (λ job. g.F.FrameMaker.fit l.maker job.seat) l.jobs.items;
  job_ended : All (λ job. OnOk job.done (job.claim.ended ≡ true)) l.jobs.items;
  job_pieces : All (λ job. OnOk job.done (AreDrawn (g.F.FrameMaker.gives l.maker) job.claim job.made.items)) l.jobs.items;
  seats : All (λ seat. g.F.FrameMaker.fit l.maker seat) l.seats.items;
  len : vec_len l.seats + vec_len l.jobs ≡ vec_len l.fn.seats + vec_len l.fn.jobs;
  room : vec_len l.fn.seats + vec_len l.fn.jobs ≤ vec_capacity l.seats;
  ended : IfOk l.pieces (λ _. vec_len l.jobs < vec_len l.fn.jobs → l.opening.ended ≡ true);
  pieces : IfOk l.pieces (λ pieces. AreDrawn (g.F.FrameMaker.gives l.maker) l.opening pieces.items);
}

abbrev pub decreases-jobs : goal.decreases-jobs
decreases-jobs g l = vec_len l.jobs
