-- The effects that a program has.
use Rattle.std.specs.Prelude.{ℕ, ◌==◌, List, if◌then◌else◌}
use Rattle.project_model.specs.Plain.{plain_of}
use Rattle.project_model.specs.declared.plain.PlainProject.{PlainProject}
use Rattle.frame_file.specs.Clip.{Pictures}
use Rattle.effect_api.specs.Sets.{EffectSet, Drawing}
use Rattle.scene_meaning.specs.Scene.{SceneParts}
use Rattle.scene_meaning.specs.Shown.{PlainScene}

-- what there is, and what each draws at 8 and at 16 bits a channel
pub record Effects : Type 0 where
  pub set : EffectSet
  pub narrow : Drawing
  pub wide : Drawing

-- what each draws at a depth
abbrev pub drawing_at : Effects → ℕ → Drawing
drawing_at effects depth = if depth == 8 then effects.narrow else effects.wide

-- a project with its clips and these effects
abbrev pub scene_with : Effects → PlainProject → List Pictures → PlainScene
scene_with effects project clips = record { project = project; clips = clips; set = effects.set; drawing = drawing_at effects project.depth }

-- what a scene means with these effects
abbrev pub scene_of : Effects → SceneParts → PlainScene
scene_of effects parts = scene_with effects (plain_of parts.project) parts.clips
