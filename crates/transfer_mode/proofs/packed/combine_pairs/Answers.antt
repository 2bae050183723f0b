use Rattle.std.proofs.Common.{◌+◌, ◌*◌, ap, ◌∙◌, take, drop, flat_map, ℕ, arith}
use Rattle.argb_pixel.specs.Packed.{pixel_size, pixels_of}
use Rattle.transfer_mode.specs.Lanes.{channels}
use Rattle.transfer_mode.proofs.Rows.{zip_steps, zip_end}
use Rattle.transfer_mode.proofs.packed.combine_pairs.Goals as goal

pub pairs-preserved : goal.pairs-preserved
pairs-preserved g c =
    let loaded = c.load.ensures ∙ ap (λ (n : ℕ). flat_map channels (pixels_of n (take (2 * pixel_size n) (drop c.pairs.at c.args.s.now)))) c.requires.lanes in
    let step = zip_steps g.row.MAX c.requires.depth g.C.Combine.combined c.requires.kept c.args.s.now c.args.d.now c.pairs.d c.pair_at.new.d c.pairs.at (c.pairs.at + 2 * c.pixel_size-step.result) c.load.result
    c.requires.long c.pairs.invariant.laid c.pairs.invariant.source c.pairs.invariant.destination (omega (arith, c.pairs-test.true, c.pixel_size-step.ensures)) (omega (arith, c.pixel_size-step.ensures)) loaded c.pair_at.ensures in
    record { laid = step.0; source = step.1.0; destination = step.1.1 }

pub returns-clause-packed : goal.returns-clause-packed
returns-clause-packed g c =
    (zip_end g.row.MAX c.requires.depth g.C.Combine.combined c.args.s.now c.args.d.now c.pairs.d c.combine_bytes.new.d c.pairs.at c.pairs.invariant.laid c.combine_bytes.ensures.packed c.combine_bytes.ensures.value).1

pub returns-clause-value : goal.returns-clause-value
returns-clause-value g c =
    (zip_end g.row.MAX c.requires.depth g.C.Combine.combined c.args.s.now c.args.d.now c.pairs.d c.combine_bytes.new.d c.pairs.at c.pairs.invariant.laid c.combine_bytes.ensures.packed c.combine_bytes.ensures.value).0
