use Rattle.std.proofs.Common.{◌≡◌, ◌-◌, ◌≤◌, length, vec_len}
use Rattle.frame_file.specs.Load.{IsFront}
use Rattle.frame_file.specs.declared.load.TheConstants.{PIECE}
use Rattle.frame_file.proofs.load.read_front.Given as goal

-- the front so far, and no call failed
abbrev pub invariant-pieces : goal.invariant-pieces
invariant-pieces g l =
    let store = g.C.ClipStore in
    record {
      front : IsFront (store.clips l.fn.clips) l.name (length l.bytes.items) l.bytes.items;
      most : length l.bytes.items ≤ l.most;
      room : length l.piece.items ≡ PIECE;
      kept : store.clips l.clips ≡ store.clips l.fn.clips;
      faults : store.faults l.clips ≡ store.faults l.fn.clips;
    }

abbrev pub decreases-pieces : goal.decreases-pieces
decreases-pieces g l = l.most - vec_len l.bytes
