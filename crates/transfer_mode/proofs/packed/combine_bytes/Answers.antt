use Rattle.std.proofs.Common.{◌+◌, arith}
use Rattle.transfer_mode.proofs.Rows.{zip_step}
use Rattle.transfer_mode.proofs.packed.combine_bytes.Goals as goal

pub pixels-preserved : goal.pixels-preserved
pixels-preserved g c =
    let step = zip_step g.row.MAX c.requires.depth g.C.Combine.combined c.requires.kept c.args.s.now c.args.d.now c.pixels.d c.combine_at.new.d c.pixels.at (c.pixels.at + c.pixel_size-at.result) c.pixel_at.result
    c.requires.long c.pixels.invariant.laid c.pixels.invariant.source c.pixels.invariant.destination c.pixels-test.true (omega (arith, c.pixel_size-at.ensures)) c.pixel_at.ensures c.combine_at.ensures in
    record { laid = step.0; source = step.1.0; destination = step.1.1 }
