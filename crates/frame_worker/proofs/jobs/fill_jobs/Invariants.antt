use Rattle.std.proofs.Common.{◌≡◌, ◌+◌, ◌-◌, ◌≤◌, ◌++◌, [], All, map, reverse, vec_len, vec_capacity}
use Rattle.frame_worker.specs.Window.{IsNew, Awaits}
use Rattle.frame_worker.proofs.jobs.fill_jobs.Given as goal

-- each job has a new seat to claim by, which the opening one awaits; and the seats of the jobs were the last ones
abbrev pub invariant-jobs : goal.invariant-jobs
invariant-jobs g l = record {
  opening : Awaits l.claims (vec_len l.jobs) l.opening;
  joined : l.opening.joined ≡ 0;
  fresh : l.opening.draws ≡ [];
  new : All (λ job. IsNew l.claims job.claim job.made.items) l.jobs.items;
  moved : l.fn.seats.items ≡ l.seats.items ++ reverse (map (λ job. job.seat) l.jobs.items);
  len : vec_len l.seats + vec_len l.jobs ≡ vec_len l.fn.seats;
  room : l.count ≤ vec_capacity l.jobs;
  capacity : vec_capacity l.seats ≡ vec_capacity l.fn.seats;
}

abbrev pub decreases-jobs : goal.decreases-jobs
decreases-jobs g l = l.count - vec_len l.jobs
