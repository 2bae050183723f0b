use Rattle.std.proofs.Common.{◌≡◌, ℕ, List, ◌++◌, length}
use Rattle.std.specs.Io.KnownBytes.{Appends}
use Rattle.frame_span.proofs.output.write_whole.Given as goal

-- what was written so far, and the rest, are the piece
abbrev pub invariant-rest : goal.invariant-rest
invariant-rest g l =
    let sink = g.K.Sink in
    record {
      done : (front : List ℕ) × (front ++ l.rest ≡ l.fn.piece) × Appends (sink.written l.fn.out) (sink.written l.out) front;
      faults : sink.faults l.out ≡ sink.faults l.fn.out;
    }

abbrev pub decreases-rest : goal.decreases-rest
decreases-rest g l = length l.rest
