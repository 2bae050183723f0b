use Rattle.std.proofs.Common.{◌≡◌}
use Rattle.frame_file.specs.Afr.{world_row_bytes}
use Rattle.frame_file.proofs.Rows.{rows_to}
use Rattle.frame_file.proofs.pixels.rows_in_turn.Given as goal

-- the rows above
abbrev pub invariant-loop-k : goal.invariant-loop-k
invariant-loop-k g l = l.bytes.items ≡ rows_to (world_row_bytes g.row.MAX l.world) l.world.part.top l.k
