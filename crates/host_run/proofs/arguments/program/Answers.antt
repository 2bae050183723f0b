use Rattle.std.proofs.Common.{◌≡◌, List, String, Global, drop, map, string_bytes, subst, sym, ◌∙◌}
use Rattle.std.specs.Prelude.{IsOkAnd}
use Rattle.effect_api.specs.Sets.{EffectSet, Drawing}
use Rattle.frame_span.specs.Effects.{Effects}
use Rattle.host_run.specs.Headline.{IsRendered}
use Rattle.host_run.specs.Run.{seen_of, seen_store}
use Rattle.run_words.specs.Words.{words_of}
use Rattle.run_words.specs.declared.settings.RunMode.TheVariants as mode
use Rattle.host_run.specs.Outcome.{mode_of}
use Rattle.host_run.proofs.Exit.{coded, refused_not_ok}
use Rattle.host_run.proofs.arguments.program.Goals as goal
use Rattle.host_run.proofs.arguments.program.Goals.{in-Ok, in-Err}

pub returns-clause-headline : goal.returns-clause-headline
returns-clause-headline g c =
    let set : EffectSet = record {
      schemas = g.E.Effect.schemas;
      class_names = g.E.Effect.class_names;
      wants = g.E.Effect.wants;
      asks = g.E.Effect.asks;
      bounds = g.E.Effect.bounds;
      need = g.E.Effect.need;
    } in
    let narrow : Drawing = record { draws = g.E.Draw-1.draws; sums_of = g.E.Draw-1.sums_of } in
    let wide : Drawing = record { draws = g.E.Draw-2.draws; sums_of = g.E.Draw-2.sums_of } in
    let effects : Effects = record { set = set; narrow = narrow; wide = wide } in
    λ code.
    let ok = coded c.match-arguments.status _ c.number.result c.from.ensures c.number.ensures code in
    elim c.match-arguments.branch [
      | in-Ok w ↦
          let read = seen_of g.S.Source.left g.S.Source.faults c.args.project.now in
          let held = seen_store g.C.ClipStore.clips g.C.ClipStore.faults c.args.clips.now in
          let written = seen_of g.K.Sink.written g.K.Sink.faults c.args.out.now in
          let Told : List (String Global) → g.row.S.Denot → g.row.C.Denot → g.row.K.Denot → Type 0 = λ ws p s o. mode_of (words_of (map string_bytes ws)) ≡ mode.Render
          → IsRendered effects (words_of (map string_bytes ws)) (read p) (held s) (written o) in
          let done : Told w.deref.result.now w.run-status.new.project w.run-status.new.clips w.run-status.new.out = λ is. w.run-status.ensures.headline is (sym w.status-is ∙ ok) in
          subst (λ a. IsOkAnd a (λ b. Told (drop 1 b.items) c.match-arguments.project c.match-arguments.clips c.match-arguments.out)) (sym w.in-Ok.is)
          (subst (λ ws. Told ws c.match-arguments.project c.match-arguments.clips c.match-arguments.out) (w.deref.ensures.value ∙ w.after_the_name.ensures)
          (subst (λ p. Told w.deref.result.now p c.match-arguments.clips c.match-arguments.out) (sym w.project-is)
          (subst (λ s. Told w.deref.result.now w.run-status.new.project s c.match-arguments.out) (sym w.clips-is)
          (subst (λ o. Told w.deref.result.now w.run-status.new.project w.run-status.new.clips o) (sym w.out-is) done))))
      | in-Err w ↦ absurd (refused_not_ok w.in-Err.error w.of_arguments.result w.note-status.result w.of_arguments.ensures w.note-status.ensures.told (sym w.status-is ∙ ok))
    ]
