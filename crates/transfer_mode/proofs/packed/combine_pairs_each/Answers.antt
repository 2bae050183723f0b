use Rattle.std.proofs.Common.{◌+◌, ◌*◌, arith}
use Rattle.transfer_mode.proofs.Rows.{map_steps, map_end}
use Rattle.transfer_mode.proofs.packed.combine_pairs_each.Goals as goal

pub pairs-preserved : goal.pairs-preserved
pairs-preserved g c =
    let step = map_steps g.row.MAX c.requires.depth g.C.Combine.combined c.requires.kept c.args.source c.a-alpha.ensures.premultiplied c.args.d.now c.pairs.d c.pair_at.new.d c.pairs.at (c.pairs.at + 2 * c.pixel_size-step.result) c.twice-row.result
    c.pairs.invariant.laid c.pairs.invariant.destination (omega (arith, c.pairs-test.true, c.pixel_size-step.ensures)) (omega (arith, c.pixel_size-step.ensures)) c.twice-row.ensures c.pair_at.ensures in
    record { laid = step.0; destination = step.1 }

pub returns-clause-packed : goal.returns-clause-packed
returns-clause-packed g c =
    (map_end g.row.MAX c.requires.depth (g.C.Combine.combined c.args.source) c.args.d.now c.pairs.d c.combine_bytes_each.new.d c.pairs.at c.pairs.invariant.laid c.combine_bytes_each.ensures.packed c.combine_bytes_each.ensures.value).1

pub returns-clause-value : goal.returns-clause-value
returns-clause-value g c =
    (map_end g.row.MAX c.requires.depth (g.C.Combine.combined c.args.source) c.args.d.now c.pairs.d c.combine_bytes_each.new.d c.pairs.at c.pairs.invariant.laid c.combine_bytes_each.ensures.packed c.combine_bytes_each.ensures.value).0
