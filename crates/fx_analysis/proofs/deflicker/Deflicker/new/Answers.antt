use Rattle.std.proofs.Common.{length, ap, ◌+◌, ◌∙◌}
use Rattle.std.proofs.lemmas.List.FromFn.{length-map-range_with_len}
use Rattle.fx_analysis.specs.Counts.{scaled_to}
use Rattle.fx_analysis.proofs.deflicker.Deflicker.new.Goals as goal

pub invariant_of-result : goal.invariant_of-result
invariant_of-result g c = record {
  whole = ap length c.in_ok-table.ensures ∙ length-map-range_with_len (scaled_to g.row.MAX c.args.times c.args.over) 0 (g.row.MAX + 1);
}
