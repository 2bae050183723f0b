use Rattle.std.proofs.Common.{◌+◌, arith}
use Rattle.transfer_mode.proofs.Rows.{map_step}
use Rattle.transfer_mode.proofs.packed.combine_bytes_each.Goals as goal

pub pixels-preserved : goal.pixels-preserved
pixels-preserved g c =
    let step = map_step g.row.MAX c.requires.depth (g.C.Combine.combined c.args.source) (λ q h. c.requires.kept c.args.source q c.a-alpha.ensures.premultiplied h) c.args.d.now c.pixels.d c.combine_at.new.d c.pixels.at (c.pixels.at + c.pixel_size-at.result)
    c.pixels.invariant.laid c.pixels.invariant.destination c.pixels-test.true (omega (arith, c.pixel_size-at.ensures)) c.combine_at.ensures in
    record { laid = step.0; destination = step.1 }
