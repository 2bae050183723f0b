use Rattle.std.proofs.Common.{◌+◌, List, Bool, sym, subst, take}
use Rattle.smart_plan.specs.Held.{AreMarks}
use Rattle.smart_plan.proofs.Holding.{marks_more}
use Rattle.smart_plan.proofs.requests.mark_whole.Goals as goal

pub loop-checkout-preserved : goal.loop-checkout-preserved
loop-checkout-preserved c =
    subst (λ (ms : List Bool). AreMarks c.args.at (take (c.loop-checkout.checkout-index + 1) c.args.checkouts.now) ms) (sym c.in_ok-push.ensures.items)
    (marks_more c.args.at c.args.checkouts.now c.loop-checkout.marks.items c.loop-checkout.checkout-index _ c.is_elsewhen.result c.loop-checkout-test.true c.loop-checkout.invariant c.is_elsewhen.ensures)
