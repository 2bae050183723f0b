use Rattle.std.proofs.Common.{◌≡◌, ℕ, ◌+◌, ◌-◌, Bool, true, false, List, [], Option, None, Some, OnErr, OnOk, refl, ap, sym, subst, ◌∙◌}
use Rattle.std.specs.Prelude.{◌==◌, if◌then◌else◌}
use Rattle.std.proofs.lemmas.Bool.{eqb-true}
use Rattle.std.specs.Io.KnownBytes.{Appends}
use Rattle.project_model.specs.Plain.{plain_comp, plain_of}
use Rattle.project_model.specs.declared.project.Project.{Project}
use Rattle.effect_api.specs.Sets.{EffectSet, Drawing}
use Rattle.frame_span.specs.Effects.{Effects, drawing_at, scene_of}
use Rattle.scene_meaning.specs.Scene.{SceneParts, plain_scene}
use Rattle.project_model.specs.declared.plain.PlainComp.{PlainComp}
use Rattle.scene_meaning.specs.Output.{file, root_of, root_file}
use Rattle.frame_span.specs.Lines.{lines, root_lines}
use Rattle.frame_span.specs.Forms.{root_text, span_text}
use Rattle.frame_span.specs.declared.form.Form.{Form}
use Rattle.frame_span.specs.declared.form.Form.TheVariants as form
use Rattle.frame_span.specs.Written.{AppendsFront}
use Rattle.frame_span.proofs.span.write_span.Goals as goal

-- what is written of a span of a scene is that of its root, with what the effects draw at its depth
text_is : (f : Form) (effects : Effects) (parts : SceneParts) (comp : PlainComp) (drawing : Drawing) (from to : ℕ) → root_of (plain_of parts.project) ≡ Some comp → drawing ≡ drawing_at effects parts.project.depth
    → root_text f (plain_scene parts effects.set drawing) comp from (to + 1 - from) ≡ span_text f (scene_of effects parts) from to
text_is form.File effects parts comp drawing from to e same =
    let text_at : Option PlainComp → ℕ → ℕ → List ℕ = λ o. elim o [ None ↦ λ first last. [] | Some root ↦ λ first last. root_file (plain_scene parts effects.set drawing) root first (last + 1 - first) ] in
    sym (ap (λ o. text_at o from to) e) ∙ ap (λ (d : Drawing). file (plain_scene parts effects.set d) from to) same
text_is form.Lines effects parts comp drawing from to e same =
    let text_at : Option PlainComp → ℕ → ℕ → List ℕ = λ o. elim o [ None ↦ λ first last. [] | Some root ↦ λ first last. root_lines (plain_scene parts effects.set drawing) root first (last + 1 - first) ] in
    sym (ap (λ o. text_at o from to) e) ∙ ap (λ (d : Drawing). lines (plain_scene parts effects.set d) from to) same

-- at 8 bits they draw what they draw there, and elsewhere what they draw at 16
narrow_at : (effects : Effects) (depth : ℕ) → depth ≡ 8 → effects.narrow ≡ drawing_at effects depth
narrow_at effects depth e = sym (ap (drawing_at effects) e)

wide_at : (effects : Effects) (depth : ℕ) → ¬ (depth ≡ 8) → effects.wide ≡ drawing_at effects depth
wide_at effects depth other = by (depth == 8) refl
  where
    by : (b : Bool) → (depth == 8) ≡ b → effects.wide ≡ (if b then effects.narrow else effects.wide)
    by true e = absurd (other (eqb-true depth 8 e))
    by false e = refl

pub returns-then-project-eq8-clause-front : goal.returns-then-project-eq8-clause-front
returns-then-project-eq8-clause-front g c =
    let set : EffectSet = record {
      schemas = g.E.Effect.schemas;
      class_names = g.E.Effect.class_names;
      wants = g.E.Effect.wants;
      asks = g.E.Effect.asks;
      bounds = g.E.Effect.bounds;
      need = g.E.Effect.need;
    } in
    let narrow : Drawing = record { draws = g.E.Draw-1.draws; sums_of = g.E.Draw-1.sums_of } in
    let wide : Drawing = record { draws = g.E.Draw-2.draws; sums_of = g.E.Draw-2.sums_of } in
    let effects : Effects = record { set = set; narrow = narrow; wide = wide } in
    let written = g.K.Sink.written in
    let parts = c.args.scene.now in
    subst (λ bytes. OnErr c.write_root.result (AppendsFront (written c.args.out.now) (written c.write_root.new.out) bytes))
    (text_is c.args.form effects parts (plain_comp c.root_of-comp.result.now) narrow c.args.span.from c.args.span.to c.root_of-comp.ensures.root
    (narrow_at effects parts.project.depth (sym (ap (λ (p : Project). p.depth) c.project.ensures.project) ∙ c.if-project-eq8.true)))
    c.write_root.ensures.front

pub returns-then-project-eq8-clause-whole : goal.returns-then-project-eq8-clause-whole
returns-then-project-eq8-clause-whole g c =
    let set : EffectSet = record {
      schemas = g.E.Effect.schemas;
      class_names = g.E.Effect.class_names;
      wants = g.E.Effect.wants;
      asks = g.E.Effect.asks;
      bounds = g.E.Effect.bounds;
      need = g.E.Effect.need;
    } in
    let narrow : Drawing = record { draws = g.E.Draw-1.draws; sums_of = g.E.Draw-1.sums_of } in
    let wide : Drawing = record { draws = g.E.Draw-2.draws; sums_of = g.E.Draw-2.sums_of } in
    let effects : Effects = record { set = set; narrow = narrow; wide = wide } in
    let written = g.K.Sink.written in
    let parts = c.args.scene.now in
    subst (λ bytes. OnOk c.write_root.result (Appends (written c.args.out.now) (written c.write_root.new.out) bytes))
    (text_is c.args.form effects parts (plain_comp c.root_of-comp.result.now) narrow c.args.span.from c.args.span.to c.root_of-comp.ensures.root
    (narrow_at effects parts.project.depth (sym (ap (λ (p : Project). p.depth) c.project.ensures.project) ∙ c.if-project-eq8.true)))
    c.write_root.ensures.whole

pub returns-else-project-eq8-clause-whole : goal.returns-else-project-eq8-clause-whole
returns-else-project-eq8-clause-whole g c =
    let set : EffectSet = record {
      schemas = g.E.Effect.schemas;
      class_names = g.E.Effect.class_names;
      wants = g.E.Effect.wants;
      asks = g.E.Effect.asks;
      bounds = g.E.Effect.bounds;
      need = g.E.Effect.need;
    } in
    let narrow : Drawing = record { draws = g.E.Draw-1.draws; sums_of = g.E.Draw-1.sums_of } in
    let wide : Drawing = record { draws = g.E.Draw-2.draws; sums_of = g.E.Draw-2.sums_of } in
    let effects : Effects = record { set = set; narrow = narrow; wide = wide } in
    let written = g.K.Sink.written in
    let parts = c.args.scene.now in
    subst (λ bytes. OnOk c.write_root-else-project-eq8.result (Appends (written c.args.out.now) (written c.write_root-else-project-eq8.new.out) bytes))
    (text_is c.args.form effects parts (plain_comp c.root_of-comp.result.now) wide c.args.span.from c.args.span.to c.root_of-comp.ensures.root
    (wide_at effects parts.project.depth (λ is. c.if-project-eq8.false (ap (λ (p : Project). p.depth) c.project.ensures.project ∙ is))))
    c.write_root-else-project-eq8.ensures.whole

pub returns-else-project-eq8-clause-front : goal.returns-else-project-eq8-clause-front
returns-else-project-eq8-clause-front g c =
    let set : EffectSet = record {
      schemas = g.E.Effect.schemas;
      class_names = g.E.Effect.class_names;
      wants = g.E.Effect.wants;
      asks = g.E.Effect.asks;
      bounds = g.E.Effect.bounds;
      need = g.E.Effect.need;
    } in
    let narrow : Drawing = record { draws = g.E.Draw-1.draws; sums_of = g.E.Draw-1.sums_of } in
    let wide : Drawing = record { draws = g.E.Draw-2.draws; sums_of = g.E.Draw-2.sums_of } in
    let effects : Effects = record { set = set; narrow = narrow; wide = wide } in
    let written = g.K.Sink.written in
    let parts = c.args.scene.now in
    subst (λ bytes. OnErr c.write_root-else-project-eq8.result (AppendsFront (written c.args.out.now) (written c.write_root-else-project-eq8.new.out) bytes))
    (text_is c.args.form effects parts (plain_comp c.root_of-comp.result.now) wide c.args.span.from c.args.span.to c.root_of-comp.ensures.root
    (wide_at effects parts.project.depth (λ is. c.if-project-eq8.false (ap (λ (p : Project). p.depth) c.project.ensures.project ∙ is))))
    c.write_root-else-project-eq8.ensures.front
