-- A scene: a project that was checked, with its clips and the ranks of its nodes.
use Rattle.std.specs.Prelude.{◌≡◌, false, List}
use Rattle.std.specs.List.{All, AllZip}
use Rattle.effect_api.specs.Sets.{EffectSet, Drawing}
use Rattle.argb_pixel.specs.Pixel.{IsPremultiplied}
use Rattle.project_model.specs.Bounds.{most_of}
use Rattle.project_model.specs.Nesting.{RankTable, ranks_of}
use Rattle.project_model.specs.Plain.{plain_comp, plain_of}
use Rattle.project_model.specs.Rules.{is_too_long}
use Rattle.project_model.specs.Sound.{IsSound}
use Rattle.project_model.specs.declared.clip.ClipUse.{ClipUse}
use Rattle.project_model.specs.declared.comp.Comp.{Comp}
use Rattle.project_model.specs.declared.project.Project.{Project}
use Rattle.frame_file.specs.Clip.{Pictures, pictures_of}
use Rattle.scene_meaning.specs.Shown.{PlainScene}

pub record SceneParts : Type 0 where
  pub project : Project
  pub clips : List Pictures
  pub ranks : RankTable

-- the clip has the sides, the depth and as many pictures as are declared
abbrev pub IsClipOf : ClipUse → Pictures → Type 0
IsClipOf declared clip = clip ≡ pictures_of declared clip.pixels

-- the composition ends within 36,000 seconds
abbrev pub EndsInTime : Comp → Type 0
EndsInTime comp = is_too_long (plain_comp comp) ≡ false

-- each pixel of the clip is premultiplied
abbrev pub IsPremultipliedClip : Pictures → Type 0
IsPremultipliedClip clip = All (IsPremultiplied (most_of clip.depth)) clip.pixels

-- what holds of the parts of every scene
pub record IsScene (parts : SceneParts) : Type 0 where
  pub sound : IsSound parts.project
  pub clips : AllZip IsClipOf parts.project.clips parts.clips
  pub pixels : All IsPremultipliedClip parts.clips
  pub lengths : All EndsInTime parts.project.comps
  pub ranks : parts.ranks ≡ ranks_of (plain_of parts.project)

-- what has a meaning of it, with the effects of a set
abbrev pub plain_scene : SceneParts → EffectSet → Drawing → PlainScene
plain_scene parts set drawing = record { project = plain_of parts.project; clips = parts.clips; set = set; drawing = drawing }
