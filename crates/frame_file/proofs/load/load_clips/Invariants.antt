use Rattle.std.proofs.Common.{◌≡◌, take}
use Rattle.frame_file.specs.Load.{AreRead}
use Rattle.frame_file.proofs.load.load_clips.Given as goal

-- the clips so far, and no call failed
abbrev pub invariant-loop-index : goal.invariant-loop-index
invariant-loop-index g l =
    let store = g.C.ClipStore in
    record {
      read : AreRead (store.clips l.fn.clips) (take l.index l.uses) l.loaded.items;
      kept : store.clips l.clips ≡ store.clips l.fn.clips;
      faults : store.faults l.clips ≡ store.faults l.fn.clips;
    }
