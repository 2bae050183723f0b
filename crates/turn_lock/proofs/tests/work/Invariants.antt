use Rattle.std.proofs.Common.{◌≡◌}
use Rattle.std.specs.Prelude.{None}
use Rattle.turn_lock.specs.Lock.{IsOf}
use Rattle.turn_lock.specs.Notes.{AreNotes}
use Rattle.turn_lock.proofs.tests.work.Given as goal

abbrev pub invariant-loop-key : goal.invariant-loop-key
invariant-loop-key g l = IsOf l.lock l.pass × (l.pass.taken ≡ None) × AreNotes l.pass.mine
