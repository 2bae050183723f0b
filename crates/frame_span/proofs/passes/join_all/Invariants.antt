use Rattle.std.proofs.Common.{All}
use Rattle.std.specs.Vec.Iter.{into_iter_items, into_iter_len}
use Rattle.frame_span.specs.Rendered.{IsOpening, IsSeat}
use Rattle.frame_span.proofs.passes.join_all.Given as goal

-- those that are left are out, and all are seats
abbrev pub invariant-left : goal.invariant-left
invariant-left g l = record {
  opening : IsOpening l.cache (into_iter_len l.left) l.opening;
  seats : All (IsSeat l.cache) (into_iter_items l.left);
}

abbrev pub decreases-left : goal.decreases-left
decreases-left g l = into_iter_len l.left
