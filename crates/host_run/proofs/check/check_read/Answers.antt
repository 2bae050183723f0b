use Rattle.std.proofs.Common.{Some, refl, sym, ap, subst, ◌∙◌}
use Rattle.frame_span.specs.Effects.{scene_of}
use Rattle.host_run.specs.Outcome.{written_in}
use Rattle.host_run.specs.Run.{Seen, SeenStore, seen_of, seen_store}
use Rattle.host_run.specs.Stages.{HasOutput}
use Rattle.host_run.proofs.Ended.{ended_at_memory, ended_at_writing}
use Rattle.frame_span.proofs.Known.{keeps_none}
use Rattle.host_run.proofs.check.check_read.Goals as goal

pub returns-in_default-clause-ended : goal.returns-in_default-clause-ended
returns-in_default-clause-ended g c = λ all same.
    let source : Seen = seen_of g.S.Source.left g.S.Source.faults c.args.source.now c.args.source.now in
    let store : SeenStore = seen_store g.C.ClipStore.clips g.C.ClipStore.faults c.args.clips.now c.args.clips.now in
    let sink : Seen = seen_of g.K.Sink.written g.K.Sink.faults c.args.out.now c.args.out.now in
    ended_at_memory all (Some c.args.settings.now) source store sink (record { kept = keeps_none source.before; works = refl })
    (record { kept = refl; works = refl }) (record { kept = keeps_none sink.before; works = refl })

pub returns-clause-ended : goal.returns-clause-ended
returns-clause-ended g c = λ all same.
    let source : Seen = seen_of g.S.Source.left g.S.Source.faults c.args.source.now c.prepare.new.source in
    let store : SeenStore = seen_store g.C.ClipStore.clips g.C.ClipStore.faults c.args.clips.now c.prepare.new.clips in
    let sink : Seen = seen_of g.K.Sink.written g.K.Sink.faults c.args.out.now c.write_check.new.out in
    let ready = c.in-Ok-prepare.ready in
    ended_at_writing all c.args.settings.now ready c.write_check.result source store sink
    (c.in-Ok-prepare.ensures.prepared all (ap (λ s. s.schemas) same ∙ sym (c.as_slice.ensures.value ∙ c.in-Ok.ensures)))
    (subst (λ m. HasOutput (written_in m (scene_of all ready.scene) ready.span.from ready.span.to) c.write_check.result sink) (sym c.requires.mode) c.write_check.ensures)
