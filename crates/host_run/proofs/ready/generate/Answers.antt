use Rattle.std.proofs.Common.{◌≡◌, List, [], None, Some, Err, subst, sym, ap, ◌∙◌}
use Rattle.std.specs.List.{AllZip}
use Rattle.project_model.specs.Broken.{breach_of}
use Rattle.project_model.specs.Checked.{breach_in, Refuses}
use Rattle.project_model.specs.Plain.{plain_of}
use Rattle.project_model.specs.declared.clip.ClipUse.{ClipUse}
use Rattle.scene_gen.specs.Generated.{generated}
use Rattle.scene_meaning.specs.Scene.{IsClipOf}
use Rattle.host_run.specs.Run.{HasEnded}
use Rattle.host_run.proofs.Ended.{ended_at_memory, ended_at_check, ended_at_span_of, ready_generated, generated_clips}
use Rattle.host_run.proofs.Lengths.{lengths_kept}
use Rattle.host_run.proofs.ready.generate.Goals as goal
use Rattle.host_run.specs.declared.ready.Ready.{Ready}

pub returns-in_default-clause-prepared : goal.returns-in_default-clause-prepared
returns-in_default-clause-prepared c = λ effects same source store nothing held sink unwritten.
    ended_at_memory effects (Some c.args.settings.now) source store sink nothing held unwritten

pub returns-in-Err-clause-prepared : goal.returns-in-Err-clause-prepared
returns-in-Err-clause-prepared c = λ effects same source store nothing held sink unwritten.
    let schemas = effects.set.schemas in
    let refuses : Refuses c.in-Err.refusal (breach_in schemas c.in-Ok.project) =
    subst (λ s. Refuses c.in-Err.refusal (breach_in s c.in-Ok.project)) (sym same) c.in-Err.ensures.refused in
    subst (λ e. HasEnded effects (Some c.args.settings.now) (Err e) source store sink) (sym c.of_check.ensures)
    (ended_at_check effects c.args.settings.now c.in-Err.refusal c.in-Ok.project source store c.requires.demo (c.in-Ok.ensures.breach schemas) refuses nothing held sink unwritten)

pub new-requires-2-clause-clips : goal.new-requires-2-clause-clips
new-requires-2-clause-clips c =
    let none : c.in-Ok.project.clips ≡ [] = ap (λ p. p.clips) c.in-Ok.ensures.project ∙ generated_clips c.args.settings.now.number in
    subst (λ (clips : List ClipUse). AllZip IsClipOf clips c.new.result.items) (sym none) (subst (AllZip IsClipOf []) (sym c.new.ensures.items) tt)

pub new-requires-2-clause-lengths : goal.new-requires-2-clause-lengths
new-requires-2-clause-lengths c =
    let schemas = c.args.schemas.now in
    let kept : breach_of schemas (plain_of c.in-Ok.project) ≡ None =
    ap (breach_of schemas) c.in-Ok.ensures.project ∙ sym (c.in-Ok.ensures.breach schemas) ∙ c.in-Ok-check.ensures.passed in
    lengths_kept schemas c.in-Ok.project kept

pub returns-in-Err-new-clause-prepared : goal.returns-in-Err-new-clause-prepared
returns-in-Err-new-clause-prepared c = λ effects same source store nothing held sink unwritten.
    ended_at_memory effects (Some c.args.settings.now) source store sink nothing held unwritten

pub returns-in-Ok-span_of-clause-prepared : goal.returns-in-Ok-span_of-clause-prepared
returns-in-Ok-span_of-clause-prepared c = λ effects same source store nothing held.
    let kept : breach_of effects.set.schemas (generated c.args.settings.now.number) ≡ None =
    ap (λ s. breach_of s (generated c.args.settings.now.number)) same ∙ sym (c.in-Ok.ensures.breach c.args.schemas.now) ∙ c.in-Ok-check.ensures.passed in
    let ready : Ready = record { scene = c.in-Ok-new.scene; span = c.in-Ok-span_of.span } in
    ready_generated effects c.args.settings.now ready source store c.requires.demo kept
    (ap (λ s. plain_of s.project) c.in-Ok-new.ensures ∙ c.in-Ok.ensures.project) (ap (λ s. s.clips) c.in-Ok-new.ensures ∙ c.new.ensures.items)
    (c.in-Ok-span_of.ensures.asked effects) nothing held

pub returns-in-Err-span_of-clause-prepared : goal.returns-in-Err-span_of-clause-prepared
returns-in-Err-span_of-clause-prepared c = λ effects same source store nothing held.
    let kept : breach_of effects.set.schemas (generated c.args.settings.now.number) ≡ None =
    ap (λ s. breach_of s (generated c.args.settings.now.number)) same ∙ sym (c.in-Ok.ensures.breach c.args.schemas.now) ∙ c.in-Ok-check.ensures.passed in
    ended_at_span_of effects c.args.settings.now c.in-Ok-new.scene c.in-Err-span_of.ending source store c.requires.demo kept
    (ap (λ s. plain_of s.project) c.in-Ok-new.ensures ∙ c.in-Ok.ensures.project) (ap (λ s. s.clips) c.in-Ok-new.ensures ∙ c.new.ensures.items)
    (c.in-Err-span_of.ensures.asked effects) nothing held
