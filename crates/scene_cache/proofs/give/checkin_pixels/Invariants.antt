use Rattle.std.proofs.Common.{length}
use Rattle.scene_cache.specs.Sharing.{receipts_of}
use Rattle.scene_cache.proofs.Returned.{AreLeft}
use Rattle.scene_cache.proofs.give.checkin_pixels.Given as goal

abbrev pub invariant-loop-last : goal.invariant-loop-last
invariant-loop-last g l = AreLeft l.cache l.fn.pass l.pass (receipts_of l.fn.pixels.pairs) (receipts_of l.pixels.pairs)

abbrev pub decreases-loop-last : goal.decreases-loop-last
decreases-loop-last g l = length l.pixels.pairs
