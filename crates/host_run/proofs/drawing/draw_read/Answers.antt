use Rattle.std.proofs.Common.{Some, refl, sym, ◌∙◌}
use Rattle.effect_api.specs.Sets.{EffectSet, Drawing}
use Rattle.frame_span.specs.Effects.{Effects}
use Rattle.host_run.specs.Run.{Seen, SeenStore, seen_of, seen_store}
use Rattle.host_run.proofs.Ended.{ended_at_memory, ended_at_writing}
use Rattle.frame_span.proofs.Known.{keeps_none}
use Rattle.host_run.proofs.drawing.draw_read.Goals as goal

pub returns-in_default-clause-ended : goal.returns-in_default-clause-ended
returns-in_default-clause-ended g c =
    let set : EffectSet = record {
      schemas = g.E.Effect.schemas;
      class_names = g.E.Effect.class_names;
      wants = g.E.Effect.wants;
      asks = g.E.Effect.asks;
      bounds = g.E.Effect.bounds;
      need = g.E.Effect.need;
    } in
    let narrow : Drawing = record { draws = g.E.Draw-1.draws; sums_of = g.E.Draw-1.sums_of } in
    let wide : Drawing = record { draws = g.E.Draw-2.draws; sums_of = g.E.Draw-2.sums_of } in
    let effects : Effects = record { set = set; narrow = narrow; wide = wide } in
    let source : Seen = seen_of g.S.Source.left g.S.Source.faults c.args.source.now c.args.source.now in
    let store : SeenStore = seen_store g.C.ClipStore.clips g.C.ClipStore.faults c.args.clips.now c.args.clips.now in
    let sink : Seen = seen_of g.K.Sink.written g.K.Sink.faults c.args.out.now c.args.out.now in
    ended_at_memory effects (Some c.args.settings.now) source store sink (record { kept = keeps_none source.before; works = refl })
    (record { kept = refl; works = refl }) (record { kept = keeps_none sink.before; works = refl })

pub returns-clause-ended : goal.returns-clause-ended
returns-clause-ended g c =
    let set : EffectSet = record {
      schemas = g.E.Effect.schemas;
      class_names = g.E.Effect.class_names;
      wants = g.E.Effect.wants;
      asks = g.E.Effect.asks;
      bounds = g.E.Effect.bounds;
      need = g.E.Effect.need;
    } in
    let narrow : Drawing = record { draws = g.E.Draw-1.draws; sums_of = g.E.Draw-1.sums_of } in
    let wide : Drawing = record { draws = g.E.Draw-2.draws; sums_of = g.E.Draw-2.sums_of } in
    let effects : Effects = record { set = set; narrow = narrow; wide = wide } in
    let source : Seen = seen_of g.S.Source.left g.S.Source.faults c.args.source.now c.prepare.new.source in
    let store : SeenStore = seen_store g.C.ClipStore.clips g.C.ClipStore.faults c.args.clips.now c.prepare.new.clips in
    let sink : Seen = seen_of g.K.Sink.written g.K.Sink.faults c.args.out.now c.write_ready.new.out in
    ended_at_writing effects c.args.settings.now c.in-Ok-prepare.ready c.write_ready.result source store sink
    (c.in-Ok-prepare.ensures.prepared effects (sym (c.as_slice.ensures.value ∙ c.in-Ok.ensures))) c.write_ready.ensures
