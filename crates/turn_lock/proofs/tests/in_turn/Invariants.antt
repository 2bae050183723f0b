use Rattle.std.proofs.Common.{◌≡◌, ◌+◌}
use Rattle.std.specs.Prelude.{None}
use Rattle.turn_lock.specs.Lock.{IsOf}
use Rattle.turn_lock.proofs.tests.in_turn.Given as goal

abbrev pub invariant-loop-round : goal.invariant-loop-round
invariant-loop-round g l =
    IsOf l.lock l.opening × (l.opening.taken ≡ None) × (l.opening.number ≡ l.fn.opening.number) × (l.opening.mine ≡ l.fn.opening.mine)
    × (l.opening.made ≡ l.fn.opening.made + l.round) × (l.opening.joined ≡ l.fn.opening.joined + l.round)
