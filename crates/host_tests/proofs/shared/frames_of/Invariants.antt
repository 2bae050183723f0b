use Rattle.compute_cache.specs.Suite.{IsAsBefore}
use Rattle.host_tests.proofs.shared.frames_of.Given as goal

abbrev pub invariant-frames : goal.invariant-frames
invariant-frames g l = record { pass : IsAsBefore l.fn.pass l.pass }
