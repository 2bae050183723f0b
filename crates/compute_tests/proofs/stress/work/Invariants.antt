use Rattle.compute_cache.specs.Suite.{IsOf, IsClearPass}
use Rattle.compute_tests.proofs.stress.work.Given as goal

abbrev pub invariant-loop-turn : goal.invariant-loop-turn
invariant-loop-turn g l = IsOf l.cache l.seat.pass × IsClearPass l.seat.pass
