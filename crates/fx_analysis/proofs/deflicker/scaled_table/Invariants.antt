use Rattle.std.specs.List.{range_with_len}
use Rattle.std.proofs.Common.{◌≡◌, ◌+◌, ◌*◌, ◌<◌, map}
use Rattle.fx_analysis.specs.Counts.{scaled_to}
use Rattle.fx_analysis.proofs.deflicker.scaled_table.Given as goal

abbrev pub invariant-loop-c : goal.invariant-loop-c
invariant-loop-c g l = record {
  made : l.table.items ≡ map (scaled_to g.row.MAX l.times l.over) (range_with_len 0 l.c);
  whole : l.scaled.part * l.over + l.scaled.rest ≡ l.c * l.times;
  left : l.scaled.rest < l.over;
}
