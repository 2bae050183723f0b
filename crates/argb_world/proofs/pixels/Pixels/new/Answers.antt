use Rattle.std.proofs.Common.{◌*◌, length, replicate, vec_capacity, ap, ◌∙◌, arith}
use Rattle.argb_world.proofs.KeptLemmas.{none_kept, kept_none, width_or_none}
use Rattle.argb_world.proofs.pixels.Pixels.new.Goals as goal

pub invariant_of-result : goal.invariant_of-result
invariant_of-result g c =
    let room = c.in_ok-written.ensures.capacity in
    none_kept g.row.MAX c.in_ok-written.written.items c.in_ok-row.row.items (vec_capacity c.in_ok-written.written) c.row_width-width.result c.args.height c.args.colour
    c.requires.depth c.in_ok-written.ensures.items c.in_ok-row.ensures.packed c.in_ok-row.ensures.pixels (omega (arith, room, ap (λ s. s * (c.row_width-width.result * c.args.height)) c.pixel_size.ensures))

pub returns-clause-pixels : goal.returns-clause-pixels
returns-clause-pixels g c =
    let same = width_or_none c.row_width-width.result c.args.width c.args.height c.row_width-width.ensures.rows c.row_width-width.ensures.none in
    kept_none g.row.MAX c.in_ok-written.written.items (c.row_width-width.result * c.args.height) c.args.colour c.requires.depth (ap length c.in_ok-written.ensures.items)
    ∙ ap (λ n. replicate n c.args.colour) same
