use Rattle.std.proofs.Common.{◌≡◌}
use Rattle.frame_span.specs.Sums.{first_rows, sums_of}
use Rattle.frame_span.proofs.sums.picture_sums.Given as goal

-- the rows so far are in the sums
abbrev pub invariant-rows : goal.invariant-rows
invariant-rows g l = l.sums ≡ sums_of (first_rows l.world l.y)
