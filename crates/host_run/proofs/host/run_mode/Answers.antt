use Rattle.std.proofs.Common.{map, string_bytes, Err, ap, refl, subst, sym}
use Rattle.effect_api.specs.Sets.{EffectSet, Drawing}
use Rattle.frame_span.specs.Effects.{Effects}
use Rattle.frame_span.proofs.Known.{keeps_none}
use Rattle.run_words.specs.Words.{words_of}
use Rattle.host_run.specs.Run.{Seen, SeenStore, HasEnded, seen_of, seen_store}
use Rattle.host_run.proofs.Ended.{ended_at_words}
use Rattle.host_run.proofs.host.run_mode.Goals as goal

pub returns-in-Err-clause-ran : goal.returns-in-Err-clause-ran
returns-in-Err-clause-ran g c =
    let set : EffectSet = record {
      schemas = g.E.Effect.schemas;
      class_names = g.E.Effect.class_names;
      wants = g.E.Effect.wants;
      asks = g.E.Effect.asks;
      bounds = g.E.Effect.bounds;
      need = g.E.Effect.need;
    } in
    let narrow : Drawing = record { draws = g.E.Draw-1.draws; sums_of = g.E.Draw-1.sums_of } in
    let wide : Drawing = record { draws = g.E.Draw-2.draws; sums_of = g.E.Draw-2.sums_of } in
    let effects : Effects = record { set = set; narrow = narrow; wide = wide } in
    let asked = words_of (map string_bytes c.args.words.now) in
    let source : Seen = seen_of g.S.Source.left g.S.Source.faults c.args.project.now c.args.project.now in
    let store : SeenStore = seen_store g.C.ClipStore.clips g.C.ClipStore.faults c.args.clips.now c.args.clips.now in
    let sink : Seen = seen_of g.K.Sink.written g.K.Sink.faults c.args.out.now c.args.out.now in
    record {
      end = Err c.of_words.result;
      ended = subst (λ e. HasEnded effects asked (Err e) source store sink) (sym c.of_words.ensures)
          (ended_at_words effects asked c.in-Err.error source store sink (λ is. c.in-Err.ensures.refused (ap Err is))
          (record { kept = keeps_none source.before; works = refl }) (record { kept = refl; works = refl }) (record { kept = keeps_none sink.before; works = refl }));
      noted = c.note.ensures;
    }

pub returns-in-Demo-clause-ran : goal.returns-in-Demo-clause-ran
returns-in-Demo-clause-ran g c =
    let set : EffectSet = record {
      schemas = g.E.Effect.schemas;
      class_names = g.E.Effect.class_names;
      wants = g.E.Effect.wants;
      asks = g.E.Effect.asks;
      bounds = g.E.Effect.bounds;
      need = g.E.Effect.need;
    } in
    let narrow : Drawing = record { draws = g.E.Draw-1.draws; sums_of = g.E.Draw-1.sums_of } in
    let wide : Drawing = record { draws = g.E.Draw-2.draws; sums_of = g.E.Draw-2.sums_of } in
    let effects : Effects = record { set = set; narrow = narrow; wide = wide } in
    let source : Seen = seen_of g.S.Source.left g.S.Source.faults c.args.project.now c.args.project.now in
    let store : SeenStore = seen_store g.C.ClipStore.clips g.C.ClipStore.faults c.args.clips.now c.args.clips.now in
    let sink : Seen = seen_of g.K.Sink.written g.K.Sink.faults c.args.out.now c.draw_generated-end.new.out in
    record {
      end = c.draw_generated-end.result;
      ended = subst (λ asked. HasEnded effects asked c.draw_generated-end.result source store sink) (sym c.in-Ok.ensures.settings)
          (c.draw_generated-end.ensures source store (record { kept = keeps_none source.before; works = refl }) (record { kept = refl; works = refl }));
      noted = c.tell-in-Demo.ensures;
    }
