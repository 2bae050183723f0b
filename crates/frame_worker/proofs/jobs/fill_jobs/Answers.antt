use Rattle.std.proofs.Common.{refl, rules}
use Rattle.frame_worker.specs.Window.{IsNew}
use Rattle.frame_worker.proofs.Moves.{moved_more, pushed}
use Rattle.frame_worker.proofs.jobs.fill_jobs.Goals as goal

pub jobs-preserved : goal.jobs-preserved
jobs-preserved g c = record {
  opening = search rules;
  joined = search rules;
  fresh = search rules;
  new = pushed (λ job. IsNew c.args.claims.now job.claim job.made.items) c.jobs.jobs.items c.push_reserved.new.self.items _ c.push_reserved.ensures.items c.jobs.invariant.new (record { further = search rules; draws = search rules; none = search rules });
  moved = moved_more (λ job. job.seat) c.args.seats.now.items c.jobs.seats.items c.pop.new.self.items c.in-Some.seat c.jobs.jobs.items c.push_reserved.new.self.items _ c.in-Some.ensures.items c.push_reserved.ensures.items refl c.jobs.invariant.moved;
  len = search rules;
  room = search rules;
  capacity = search rules;
}
