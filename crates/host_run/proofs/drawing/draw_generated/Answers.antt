use Rattle.std.proofs.Common.{Some, refl, sym, ◌∙◌}
use Rattle.effect_api.specs.Sets.{EffectSet, Drawing}
use Rattle.frame_span.specs.Effects.{Effects}
use Rattle.host_run.specs.Run.{Seen, seen_of}
use Rattle.host_run.proofs.Ended.{ended_at_memory, ended_at_writing}
use Rattle.frame_span.proofs.Known.{keeps_none}
use Rattle.host_run.proofs.drawing.draw_generated.Goals as goal

pub returns-in_default : goal.returns-in_default
returns-in_default g c = λ source store nothing held.
    let set : EffectSet = record {
      schemas = g.E.Effect.schemas;
      class_names = g.E.Effect.class_names;
      wants = g.E.Effect.wants;
      asks = g.E.Effect.asks;
      bounds = g.E.Effect.bounds;
      need = g.E.Effect.need;
    } in
    let narrow : Drawing = record { draws = g.E.Draw-1.draws; sums_of = g.E.Draw-1.sums_of } in
    let wide : Drawing = record { draws = g.E.Draw-2.draws; sums_of = g.E.Draw-2.sums_of } in
    let effects : Effects = record { set = set; narrow = narrow; wide = wide } in
    let sink : Seen = seen_of g.K.Sink.written g.K.Sink.faults c.args.out.now c.args.out.now in
    ended_at_memory effects (Some c.args.settings.now) source store sink nothing held (record { kept = keeps_none sink.before; works = refl })

pub returns-in-Err : goal.returns-in-Err
returns-in-Err g c = λ source store nothing held.
    let set : EffectSet = record {
      schemas = g.E.Effect.schemas;
      class_names = g.E.Effect.class_names;
      wants = g.E.Effect.wants;
      asks = g.E.Effect.asks;
      bounds = g.E.Effect.bounds;
      need = g.E.Effect.need;
    } in
    let narrow : Drawing = record { draws = g.E.Draw-1.draws; sums_of = g.E.Draw-1.sums_of } in
    let wide : Drawing = record { draws = g.E.Draw-2.draws; sums_of = g.E.Draw-2.sums_of } in
    let effects : Effects = record { set = set; narrow = narrow; wide = wide } in
    let sink : Seen = seen_of g.K.Sink.written g.K.Sink.faults c.args.out.now c.args.out.now in
    c.in-Err.ensures.prepared effects (sym (c.as_slice.ensures.value ∙ c.in-Ok.ensures)) source store nothing held sink
    (record { kept = keeps_none sink.before; works = refl })

pub returns : goal.returns
returns g c = λ source store nothing held.
    let set : EffectSet = record {
      schemas = g.E.Effect.schemas;
      class_names = g.E.Effect.class_names;
      wants = g.E.Effect.wants;
      asks = g.E.Effect.asks;
      bounds = g.E.Effect.bounds;
      need = g.E.Effect.need;
    } in
    let narrow : Drawing = record { draws = g.E.Draw-1.draws; sums_of = g.E.Draw-1.sums_of } in
    let wide : Drawing = record { draws = g.E.Draw-2.draws; sums_of = g.E.Draw-2.sums_of } in
    let effects : Effects = record { set = set; narrow = narrow; wide = wide } in
    let sink : Seen = seen_of g.K.Sink.written g.K.Sink.faults c.args.out.now c.write_ready.new.out in
    ended_at_writing effects c.args.settings.now c.in-Ok-generate.ready c.write_ready.result source store sink
    (c.in-Ok-generate.ensures.prepared effects (sym (c.as_slice.ensures.value ∙ c.in-Ok.ensures)) source store nothing held) c.write_ready.ensures
