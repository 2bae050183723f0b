use Rattle.std.proofs.Common.{length}
use Rattle.fx_time.proofs.pre_render.+cover_all.Given as goal

abbrev pub decreases-cover_all : goal.decreases-cover_all
decreases-cover_all l = length l.rects.now
