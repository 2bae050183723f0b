use Rattle.std.proofs.Common.{◌≡◌, ◌-◌, length}
use Rattle.frame_claims.specs.Claims.{IsOf}
use Rattle.frame_claims.proofs.tests.drain.Given as goal

abbrev pub invariant-loop-number : goal.invariant-loop-number
invariant-loop-number l = IsOf l.claims l.seat × (l.seat.opening ≡ l.fn.seat.opening) × (l.numbers.items ≡ l.seat.draws)

-- each number leaves one fewer
abbrev pub decreases-loop-number : goal.decreases-loop-number
decreases-loop-number l = l.claims.count - length l.seat.draws
