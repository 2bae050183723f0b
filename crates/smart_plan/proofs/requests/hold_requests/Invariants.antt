use Rattle.std.proofs.Common.{◌≡◌, length}
use Rattle.smart_plan.proofs.Holding.{IsHeldTo}
use Rattle.smart_plan.proofs.requests.hold_requests.Given as goal

abbrev pub invariant-loop-number : goal.invariant-loop-number
invariant-loop-number l = record {
  long : length l.checkouts.items ≡ length l.fn.checkouts.items;
  so_far : IsHeldTo l.at l.extents l.fn.checkouts.items l.checkouts.items l.number;
}
