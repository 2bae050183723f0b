use Rattle.std.proofs.Common.{◌≡◌, suc, ◌-◌, ◌<◌, vec_len}
use Rattle.std.specs.Io.KnownBytes.{Consumes}
use Rattle.host_run.specs.declared.input.TheConstants.{LONGEST_TEXT}
use Rattle.host_run.proofs.input.read_to_end.Given as goal

-- what was read so far was taken from the source, and no read failed
abbrev pub invariant-pieces : goal.invariant-pieces
invariant-pieces g l =
    let source = g.S.Source in
    record {
      taken : Consumes (source.left l.fn.source) (source.left l.source) l.bytes.items;
      room : 0 < vec_len l.piece;
      faults : source.faults l.source ≡ source.faults l.fn.source;
    }

abbrev pub decreases-pieces : goal.decreases-pieces
decreases-pieces g l = suc LONGEST_TEXT - vec_len l.bytes
