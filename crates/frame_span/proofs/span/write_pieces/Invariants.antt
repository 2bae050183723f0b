use Rattle.std.proofs.Common.{◌≡◌, take}
use Rattle.std.specs.Prelude.{flat_map}
use Rattle.std.specs.Io.KnownBytes.{Appends}
use Rattle.frame_span.proofs.span.write_pieces.Given as goal

-- the pieces so far are written, and no write failed
abbrev pub invariant-pieces : goal.invariant-pieces
invariant-pieces g l =
    let sink = g.K.Sink in
    record {
      done : Appends (sink.written l.fn.out) (sink.written l.out) (flat_map (λ piece. piece.made.items) (take l.piece-index l.pieces));
      faults : sink.faults l.out ≡ sink.faults l.fn.out;
    }
