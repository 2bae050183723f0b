use Rattle.effect_api.specs.Sets.{EffectSet, Drawing}
use Rattle.frame_span.specs.Effects.{Effects}
use Rattle.host_run.proofs.Answered.{headline_of, written_of, untouched_of, answered_of}
use Rattle.host_run.proofs.host.run.Goals as goal

pub returns-clause-headline : goal.returns-clause-headline
returns-clause-headline g c =
    let set : EffectSet = record {
      schemas = g.E.Effect.schemas;
      class_names = g.E.Effect.class_names;
      wants = g.E.Effect.wants;
      asks = g.E.Effect.asks;
      bounds = g.E.Effect.bounds;
      need = g.E.Effect.need;
    } in
    let narrow : Drawing = record { draws = g.E.Draw-1.draws; sums_of = g.E.Draw-1.sums_of } in
    let wide : Drawing = record { draws = g.E.Draw-2.draws; sums_of = g.E.Draw-2.sums_of } in
    let effects : Effects = record { set = set; narrow = narrow; wide = wide } in
    λ is ok. headline_of effects _ _ _ _ _ _ c.run_mode.ensures.ran is ok

pub returns-clause-written : goal.returns-clause-written
returns-clause-written g c =
    let set : EffectSet = record {
      schemas = g.E.Effect.schemas;
      class_names = g.E.Effect.class_names;
      wants = g.E.Effect.wants;
      asks = g.E.Effect.asks;
      bounds = g.E.Effect.bounds;
      need = g.E.Effect.need;
    } in
    let narrow : Drawing = record { draws = g.E.Draw-1.draws; sums_of = g.E.Draw-1.sums_of } in
    let wide : Drawing = record { draws = g.E.Draw-2.draws; sums_of = g.E.Draw-2.sums_of } in
    let effects : Effects = record { set = set; narrow = narrow; wide = wide } in
    λ ok. written_of effects _ _ _ _ _ _ c.run_mode.ensures.ran ok

pub returns-clause-demo : goal.returns-clause-demo
returns-clause-demo g c =
    let set : EffectSet = record {
      schemas = g.E.Effect.schemas;
      class_names = g.E.Effect.class_names;
      wants = g.E.Effect.wants;
      asks = g.E.Effect.asks;
      bounds = g.E.Effect.bounds;
      need = g.E.Effect.need;
    } in
    let narrow : Drawing = record { draws = g.E.Draw-1.draws; sums_of = g.E.Draw-1.sums_of } in
    let wide : Drawing = record { draws = g.E.Draw-2.draws; sums_of = g.E.Draw-2.sums_of } in
    let effects : Effects = record { set = set; narrow = narrow; wide = wide } in
    λ is. untouched_of effects _ _ _ _ _ _ c.run_mode.ensures.ran is

pub returns-clause-answered : goal.returns-clause-answered
returns-clause-answered g c =
    let set : EffectSet = record {
      schemas = g.E.Effect.schemas;
      class_names = g.E.Effect.class_names;
      wants = g.E.Effect.wants;
      asks = g.E.Effect.asks;
      bounds = g.E.Effect.bounds;
      need = g.E.Effect.need;
    } in
    let narrow : Drawing = record { draws = g.E.Draw-1.draws; sums_of = g.E.Draw-1.sums_of } in
    let wide : Drawing = record { draws = g.E.Draw-2.draws; sums_of = g.E.Draw-2.sums_of } in
    let effects : Effects = record { set = set; narrow = narrow; wide = wide } in
    answered_of effects _ _ _ _ _ _ c.run_mode.ensures.ran
