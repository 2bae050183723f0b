use Rattle.std.proofs.Common.{Ok, Err, refl, subst, sym}
use Rattle.project_model.specs.Plain.{plain_of}
use Rattle.host_run.specs.Run.{Seen, SeenStore, seen_of, seen_store}
use Rattle.host_run.specs.Stages.{HasRead}
use Rattle.host_run.proofs.Ended.{plain_is_kept, read_is_kept, ended_at_project, ended_at_clips, ended_at_span, ready_read}
use Rattle.host_run.proofs.Lengths.{lengths_kept}
use Rattle.host_run.proofs.ready.prepare.Goals as goal

pub read_clips-requires-clause-passed : goal.read_clips-requires-clause-passed
read_clips-requires-clause-passed g c =
    let read = c.in-Ok.ensures in
    read_is_kept c.args.schemas.now read.bytes c.in-Ok.project read.reads.1 read.reads.2

pub read_clips-requires-clause-lengths : goal.read_clips-requires-clause-lengths
read_clips-requires-clause-lengths g c =
    let read = c.in-Ok.ensures in
    lengths_kept c.args.schemas.now c.in-Ok.project (plain_is_kept c.args.schemas.now read.bytes (plain_of c.in-Ok.project) read.reads.1)

pub returns-in-Err-clause-prepared : goal.returns-in-Err-clause-prepared
returns-in-Err-clause-prepared g c = λ effects same.
    let source : Seen = seen_of g.S.Source.left g.S.Source.faults c.args.source.now c.read_input.new.source in
    let store : SeenStore = seen_store g.C.ClipStore.clips g.C.ClipStore.faults c.args.clips.now c.args.clips.now in
    ended_at_project effects c.args.settings.now c.requires.reads c.in-Err.ending source store
    (subst (λ schemas. HasRead schemas (Err c.in-Err.ending) source) (sym same) c.in-Err.ensures) (record { kept = refl; works = refl })

pub returns-in-Err-read_clips-clause-prepared : goal.returns-in-Err-read_clips-clause-prepared
returns-in-Err-read_clips-clause-prepared g c = λ effects same.
    let source : Seen = seen_of g.S.Source.left g.S.Source.faults c.args.source.now c.read_input.new.source in
    let store : SeenStore = seen_store g.C.ClipStore.clips g.C.ClipStore.faults c.args.clips.now c.read_clips.new.clips in
    ended_at_clips effects c.args.settings.now c.requires.reads c.in-Ok.project c.in-Err-read_clips.ending source store
    (subst (λ schemas. HasRead schemas (Ok c.in-Ok.project) source) (sym same) c.in-Ok.ensures) c.in-Err-read_clips.ensures.loaded c.in-Err-read_clips.ensures.kept

pub returns-in-Ok-span_of-clause-prepared : goal.returns-in-Ok-span_of-clause-prepared
returns-in-Ok-span_of-clause-prepared g c = λ effects same.
    let source : Seen = seen_of g.S.Source.left g.S.Source.faults c.args.source.now c.read_input.new.source in
    let store : SeenStore = seen_store g.C.ClipStore.clips g.C.ClipStore.faults c.args.clips.now c.read_clips.new.clips in
    ready_read effects c.args.settings.now c.requires.reads c.in-Ok.project (record { scene = c.in-Ok-read_clips.scene; span = c.in-Ok-span_of.span }) source store
    (subst (λ schemas. HasRead schemas (Ok c.in-Ok.project) source) (sym same) c.in-Ok.ensures) c.in-Ok-read_clips.ensures.loaded
    (c.in-Ok-span_of.ensures.asked effects) c.in-Ok-read_clips.ensures.kept

pub returns-in-Err-span_of-clause-prepared : goal.returns-in-Err-span_of-clause-prepared
returns-in-Err-span_of-clause-prepared g c = λ effects same.
    let source : Seen = seen_of g.S.Source.left g.S.Source.faults c.args.source.now c.read_input.new.source in
    let store : SeenStore = seen_store g.C.ClipStore.clips g.C.ClipStore.faults c.args.clips.now c.read_clips.new.clips in
    ended_at_span effects c.args.settings.now c.requires.reads c.in-Ok.project c.in-Ok-read_clips.scene c.in-Err-span_of.ending source store
    (subst (λ schemas. HasRead schemas (Ok c.in-Ok.project) source) (sym same) c.in-Ok.ensures) c.in-Ok-read_clips.ensures.loaded
    (c.in-Err-span_of.ensures.asked effects) c.in-Ok-read_clips.ensures.kept
