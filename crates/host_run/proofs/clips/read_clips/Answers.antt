use Rattle.std.proofs.Common.{Err, sym, subst, ap}
use Rattle.host_run.specs.Run.{SeenStore, seen_store}
use Rattle.host_run.specs.Stages.{HasLoaded}
use Rattle.host_run.proofs.Loaded.{loaded_well, loaded_not, loaded_without_memory}
use Rattle.frame_file.specs.Load as load
use Rattle.host_run.proofs.clips.read_clips.Goals as goal

pub returns-in-Err-clause-loaded : goal.returns-in-Err-clause-loaded
returns-in-Err-clause-loaded g c =
    let store : SeenStore = seen_store g.C.ClipStore.clips g.C.ClipStore.faults c.args.clips.now c.load_clips.new.clips in
    subst (λ e. HasLoaded c.args.project (Err e) store) (sym c.of_loading.ensures)
    (loaded_not c.args.project c.in-Err.error store
    (subst (λ uses. load.Loads store.clips uses (Err c.in-Err.error)) c.as_slice.ensures c.in-Err.ensures.loads) c.in-Err.ensures.cause)

pub returns-in_default-clause-loaded : goal.returns-in_default-clause-loaded
returns-in_default-clause-loaded g c =
    loaded_without_memory c.args.project (seen_store g.C.ClipStore.clips g.C.ClipStore.faults c.args.clips.now c.load_clips.new.clips) c.in-Ok.ensures.cause

pub returns-in-Ok-new-clause-loaded : goal.returns-in-Ok-new-clause-loaded
returns-in-Ok-new-clause-loaded g c =
    let store : SeenStore = seen_store g.C.ClipStore.clips g.C.ClipStore.faults c.args.clips.now c.load_clips.new.clips in
    loaded_well c.args.project c.in-Ok.loaded.items c.in-Ok-new.scene store
    (subst (λ uses. load.AreRead store.clips uses c.in-Ok.loaded.items) c.as_slice.ensures c.in-Ok.ensures.loads) c.in-Ok.ensures.cause
    (ap (λ s. s.project) c.in-Ok-new.ensures) (ap (λ s. s.clips) c.in-Ok-new.ensures)

pub returns-in-Err-new-clause-loaded : goal.returns-in-Err-new-clause-loaded
returns-in-Err-new-clause-loaded g c =
    loaded_without_memory c.args.project (seen_store g.C.ClipStore.clips g.C.ClipStore.faults c.args.clips.now c.load_clips.new.clips) c.in-Ok.ensures.cause
