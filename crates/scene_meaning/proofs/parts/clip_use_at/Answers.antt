use Rattle.std.proofs.Common.{◌≡◌, ℕ, ◌<◌, length, subst, ap, ◌∙◌, arith}
use Rattle.project_model.specs.Plain.{plain_of}
use Rattle.project_model.specs.Sound.{IsSoundClip}
use Rattle.project_model.specs.declared.project.Project.{Project}
use Rattle.scene_meaning.specs.Shown.{base_in}
use Rattle.scene_meaning.proofs.Inside.{holds_at}
use Rattle.scene_meaning.proofs.parts.clip_use_at.Goals as goal

pub returns-clause-sound : goal.returns-clause-sound
returns-clause-sound c =
    let project = c.project.result.now in
    let declared = c.index-as_slice-index.result in
    let clips : c.as_slice.result.now ≡ c.args.scene.now.project.clips = c.as_slice.ensures ∙ ap (λ (p : Project). p.clips) c.project.ensures.project in
    let here : c.args.index < length c.as_slice.result.now = omega (arith, ap length clips, c.requires) in
    let clip : IsSoundClip project.base.ticks declared = holds_at (IsSoundClip project.base.ticks) project.clips c.as_slice.result.now c.args.index declared c.project.ensures.sound.clips c.as_slice.ensures here c.index-as_slice-index.is in
    subst (λ (b : ℕ). IsSoundClip b declared) (c.project.ensures.sound.base ∙ ap (λ (p : Project). base_in (plain_of p)) c.project.ensures.project) clip
