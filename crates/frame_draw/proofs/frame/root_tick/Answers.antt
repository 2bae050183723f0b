use Rattle.std.proofs.Common.{◌≡◌, ℕ, ◌<◌, pos, subst, sym, ap, ◌∙◌, arith, w64, rules}
use Rattle.std.specs.Int.{◌∣◌}
use Rattle.std.specs.Int.RustNames.{FitsSigned}
use Rattle.std.proofs.lemmas.Int.{to_z-of_z}
use Rattle.project_model.specs.Plain.{plain_of, plain_comp}
use Rattle.project_model.specs.declared.plain.PlainComp.{PlainComp}
use Rattle.project_model.specs.declared.project.Project.{Project}
use Rattle.rational_time.specs.Times.{tick_of, tick_of_frame}
use Rattle.scene_meaning.specs.Shown.{base_in}
use Rattle.effect_api.specs.Fits.{IsHeld}
use Rattle.frame_draw.proofs.Frames.{root_is, frame_within, frame_held}
use Rattle.frame_draw.proofs.frame.root_tick.Goals as goal

pub to_tick-requires-clause-divides : goal.to_tick-requires-clause-divides
to_tick-requires-clause-divides c =
    subst (λ (b : ℕ). c.comp_at-comp.result.now.frame.scale ∣ b) (sym c.base_of.ensures.ticks) c.comp_at-comp.ensures.sound.frame.divides

pub frame_tick-requires-clause-frame : goal.frame_tick-requires-clause-frame
frame_tick-requires-clause-frame c =
    let within : c.args.frame < c.comp_at-comp.result.now.frames = frame_within c.args.scene.now.project c.project.result.now.root c.args.frame c.comp_at-comp.result.now (ap (λ (p : Project). p.root) c.project.ensures.project) c.comp_at-comp.ensures.here c.requires in
    omega (arith, within, c.comp_at-comp.ensures.sound.few_frames)

pub returns-clause-tick : goal.returns-clause-tick
returns-clause-tick c =
    λ comp found.
    let there = root_is c.args.scene.now.project c.project.result.now.root c.comp_at-comp.result.now (ap (λ (p : Project). p.root) c.project.ensures.project) c.comp_at-comp.ensures.here in
    let same : plain_comp c.comp_at-comp.result.now ≡ comp = cc in
    let wide : FitsSigned w64 c.to_tick.result.0 = search rules in
    let at : c.frame_tick.result.0 ≡ tick_of_frame (pos c.args.frame) c.to_tick.result.0 = simp to_z-of_z at c.frame_tick.ensures in
    at
    ∙ ap (tick_of_frame (pos c.args.frame)) (c.to_tick.ensures.value ∙ ap (λ (b : ℕ). tick_of b c.comp_at-comp.result.now.frame) c.base_of.ensures.ticks)
    ∙ ap (λ (d : PlainComp). tick_of_frame (pos c.args.frame) (tick_of (base_in (plain_of c.args.scene.now.project)) d.frame)) same

pub returns-clause-held : goal.returns-clause-held
returns-clause-held c =
    let comp = c.comp_at-comp.result.now in
    let project = c.args.scene.now.project in
    let wide : FitsSigned w64 c.to_tick.result.0 = search rules in
    let at : c.frame_tick.result.0 ≡ tick_of_frame (pos c.args.frame) c.to_tick.result.0 = simp to_z-of_z at c.frame_tick.ensures in
    let within : c.args.frame < comp.frames = frame_within project c.project.result.now.root c.args.frame comp (ap (λ (p : Project). p.root) c.project.ensures.project) c.comp_at-comp.ensures.here c.requires in
    subst (λ (b : ℕ). IsHeld b c.frame_tick.result.0) c.base_of.ensures.ticks
    (subst (IsHeld c.base_of.result.ticks) (sym at)
    (frame_held c.args.frame comp.frames comp.frame.scale c.base_of.result.ticks c.to_tick.result.0 comp.frame.value c.to_tick.ensures.seconds c.comp_at-comp.ensures.sound.some_time c.base_of.ensures.some within c.comp_at-comp.ensures.ends c.comp_at-comp.ensures.sound.frame.scaled))
