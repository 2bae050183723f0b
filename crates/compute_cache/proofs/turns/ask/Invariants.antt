use Rattle.compute_cache.specs.Turned.{Waiting}
use Rattle.compute_cache.proofs.turns.ask.Given as goal

abbrev pub invariant-loop-turn : goal.invariant-loop-turn
invariant-loop-turn g l = Waiting l.lock l.initial.pass l.pass
