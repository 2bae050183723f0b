use Rattle.std.proofs.Common.{[], ◌∷◌}
use Rattle.scene_cache.proofs.Returned.{last_open, less_left}
use Rattle.scene_cache.proofs.give.checkin_all.Goals as goal

pub checkin_one-requires-clause-open : goal.checkin_one-requires-clause-open
checkin_one-requires-clause-open g c κs within =
    last_open c.args.cache.now c.args.pass.now c.loop-receipt.pass c.args.receipts.items c.loop-receipt.receipts.items c.pop.new.self.items (c.in-Some.receipt ∷ [])
    c.in-Some.ensures.items c.loop-receipt.invariant c.requires.open

pub loop-receipt-preserved : goal.loop-receipt-preserved
loop-receipt-preserved g c =
    less_left c.args.cache.now c.args.pass.now c.loop-receipt.pass c.args.receipts.items c.loop-receipt.receipts.items c.pop.new.self.items (c.in-Some.receipt ∷ [])
    c.in-Some.ensures.items c.loop-receipt.invariant c.checkin_one.new.pass c.requires.open c.checkin_one.ensures
