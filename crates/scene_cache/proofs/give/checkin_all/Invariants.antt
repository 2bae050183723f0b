use Rattle.std.proofs.Common.{length}
use Rattle.scene_cache.proofs.Returned.{AreLeft}
use Rattle.scene_cache.proofs.give.checkin_all.Given as goal

abbrev pub invariant-loop-receipt : goal.invariant-loop-receipt
invariant-loop-receipt g l = AreLeft l.cache l.fn.pass l.pass l.fn.receipts.items l.receipts.items

abbrev pub decreases-loop-receipt : goal.decreases-loop-receipt
decreases-loop-receipt g l = length l.receipts.items
