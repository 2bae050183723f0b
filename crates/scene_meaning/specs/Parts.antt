-- The parts of a scene.
use Rattle.std.specs.Prelude.{◌≡◌, ◌<◌, ℕ, List, length, take, slice_get, Some}
use Rattle.comp_stack.specs.Stack.{Plane}
use Rattle.project_model.specs.Nesting.{source_rank, stack_rank}
use Rattle.project_model.specs.Plain.{plain_of}
use Rattle.project_model.specs.Sound.{IsSoundComp, IsSoundLayer}
use Rattle.project_model.specs.declared.comp.Comp.{Comp}
use Rattle.project_model.specs.declared.layer.Layer.{Layer}
use Rattle.project_model.specs.declared.plain.PlainLayer.{PlainLayer}
use Rattle.project_model.specs.declared.plain.PlainComp.{PlainComp}
use Rattle.project_model.specs.declared.project.Project.{Project}
use Rattle.effect_api.specs.declared.moment.Want.{Want}
use Rattle.scene_meaning.specs.Drawn.{input_plane}
use Rattle.scene_meaning.specs.Shown.{PlainScene, Sources, sources_of, shown, base_in, named_plane, plane_behind}

-- what holds of each composition of a sound project, and of each layer
abbrev pub IsCompOf : Project → Comp → Type 0
IsCompOf project comp = IsSoundComp project.depth (base_in (plain_of project)) (length project.clips) (length project.comps) comp

abbrev pub IsLayerOf : Project → Layer → Type 0
IsLayerOf project layer = IsSoundLayer project.depth (base_in (plain_of project)) (length project.clips) (length project.comps) layer

-- the layer is one of the composition of this index, and its source has a rank below that of the composition
pub record IsLayerIn (project : Project) (of : ℕ) (comp : Comp) (layer : Layer) : Type 0 where
  pub here : slice_get project.comps of ≡ Some comp
  pub index : ℕ
  pub there : slice_get comp.layers index ≡ Some layer
  pub sound : IsLayerOf project layer
  pub below : source_rank (stack_rank (plain_of project)) layer.source < stack_rank (plain_of project) of

-- what the layers of a scene are drawn from
abbrev pub drawn_from : PlainScene → Sources
drawn_from scene = sources_of scene (shown scene)

-- what the effect of a layer of this number wants, where it names these layers
abbrev pub wanted_by : Sources → PlainComp → PlainLayer → ℕ → List ℕ → Want → Plane
wanted_by sources comp layer number layers want =
    input_plane want.input (plane_behind sources comp layer (take number layer.effects)) (named_plane sources comp) layers want.tick.0
