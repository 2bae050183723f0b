use Rattle.std.proofs.Common.{sym, ◌∙◌}
use Rattle.frame_file.proofs.Packed.{writes_packed_rows}
use Rattle.frame_file.proofs.pixels.into_frame_bytes.Goals as goal

pub returns : goal.returns
returns g c =
    let done = c.into_packed.ensures in
    done.bytes ∙ sym (writes_packed_rows.pixels g.row.MAX c.args.world done.depth done.picture)
