use Rattle.std.proofs.Common.{◌+◌, ◌*◌, ◌++◌, refl, arith}
use Rattle.argb_pixel.specs.Pixel.{clear, scale_of}
use Rattle.argb_pixel.proofs.Channels.{clear_premultiplied, part_premultiplied}
use Rattle.transfer_mode.specs.Lanes.{channels}
use Rattle.transfer_mode.proofs.Rows.{map_steps, map_end}
use Rattle.transfer_mode.proofs.scale.scale_pairs.Goals as goal

pub pairs-preserved : goal.pairs-preserved
pairs-preserved g c =
    let step = map_steps g.row.MAX c.requires.depth (λ _ p. scale_of p c.args.opacity) (λ p q h k. part_premultiplied g.row.MAX 10000 c.args.opacity q (omega arith) c.requires.part k) clear (clear_premultiplied g.row.MAX) c.args.row.now c.pairs.row c.scale_pair_at.new.row c.pairs.at (c.pairs.at + 2 * c.pixel_size-step.result) (channels clear ++ channels clear)
    c.pairs.invariant.laid c.pairs.invariant.destination (omega (arith, c.pairs-test.true, c.pixel_size-step.ensures)) (omega (arith, c.pixel_size-step.ensures)) refl (λ p p' q q' h h' k k' e here. c.scale_pair_at.ensures q q' k k' here) in
    record { laid = step.0; destination = step.1 }

pub returns-clause-packed : goal.returns-clause-packed
returns-clause-packed g c =
    (map_end g.row.MAX c.requires.depth (λ p. scale_of p c.args.opacity) c.args.row.now c.pairs.row c.scale_bytes.new.row c.pairs.at c.pairs.invariant.laid c.scale_bytes.ensures.packed c.scale_bytes.ensures.value).1

pub returns-clause-value : goal.returns-clause-value
returns-clause-value g c =
    (map_end g.row.MAX c.requires.depth (λ p. scale_of p c.args.opacity) c.args.row.now c.pairs.row c.scale_bytes.new.row c.pairs.at c.pairs.invariant.laid c.scale_bytes.ensures.packed c.scale_bytes.ensures.value).0
