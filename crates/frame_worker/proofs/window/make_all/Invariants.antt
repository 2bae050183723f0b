use Rattle.std.proofs.Common.{◌-◌, length}
use Rattle.frame_worker.specs.Window.{IsFurther, AreDrawn}
use Rattle.frame_worker.proofs.window.make_all.Given as goal

-- what was claimed is made
abbrev pub invariant-loop-claim : goal.invariant-loop-claim
invariant-loop-claim g l = record {
  claim : IsFurther l.claims l.claim;
  fit : g.F.FrameMaker.fit l.maker l.seat;
  pieces : AreDrawn (g.F.FrameMaker.gives l.maker) l.claim l.pieces.items;
}

-- each claim leaves one frame fewer
abbrev pub decreases-loop-claim : goal.decreases-loop-claim
decreases-loop-claim g l = l.claims.count - length l.claim.draws
