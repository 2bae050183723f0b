use Rattle.std.proofs.Common.{take}
use Rattle.smart_plan.specs.Held.{AreMarks}
use Rattle.smart_plan.proofs.requests.mark_whole.Given as goal

abbrev pub invariant-loop-checkout : goal.invariant-loop-checkout
invariant-loop-checkout l = AreMarks l.at (take l.checkout-index l.checkouts) l.marks.items
