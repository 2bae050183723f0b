-- What layers show is premultiplied, transparent outside its extent, and not far away.
use Rattle.std.specs.Prelude.{◌≡◌, ℕ, ◌≤◌, ℤ, length, take, slice_get, Some}
use Rattle.comp_stack.specs.Stack.{Plane}
use Rattle.project_model.specs.Bounds.{most_of}
use Rattle.project_model.specs.Plain.{plain_comp, plain_layer, plain_of}
use Rattle.project_model.specs.Uses.{AreUses}
use Rattle.project_model.specs.declared.comp.Comp.{Comp}
use Rattle.project_model.specs.declared.layer.Layer.{Layer}
use Rattle.effect_api.specs.Fits.{IsHeld}
use Rattle.effect_api.specs.Planes.{IsPlane}
use Rattle.effect_api.specs.Sets.{EffectSet, Drawing, IsLawfulSet, IsLawfulDrawing}
use Rattle.scene_meaning.specs.Boxes.{IsBoxed}
use Rattle.scene_meaning.specs.Scene.{SceneParts, IsScene, plain_scene}
use Rattle.scene_meaning.specs.Shown.{base_in, plane_behind, shown, source_plane, sources_of}

-- a scene with effects of a lawful set
pub record IsLawfulScene (parts : SceneParts) (set : EffectSet) (drawing : Drawing) : Type 0 where
  pub scene : IsScene parts
  pub uses : AreUses set.schemas parts.project
  pub set_is : IsLawfulSet set
  pub drawing_is : IsLawfulDrawing (most_of parts.project.depth) set drawing

-- a plane within the box of so many effects
pub record IsBoxedPlane (most count : ℕ) (plane : Plane) : Type 0 where
  pub is : IsPlane most plane
  pub boxed : IsBoxed count plane.extent

-- Behind each of its effects, and at each held tick, what a layer shows is a plane within the box of so many effects; so is its source
-- at whatever tick.
pub record PlanesAreBoxed (parts : SceneParts) (set : EffectSet) (drawing : Drawing) : Type 0 where
  pub source : (of index : ℕ) (comp : Comp) (layer : Layer) (t : ℤ) → slice_get parts.project.comps of ≡ Some comp → slice_get comp.layers index ≡ Some layer
      → IsBoxedPlane (most_of parts.project.depth) 0 (source_plane (sources_of (plain_scene parts set drawing) (shown (plain_scene parts set drawing))) (plain_layer layer) t)
  pub behind : (of index count : ℕ) (comp : Comp) (layer : Layer) (t : ℤ) → slice_get parts.project.comps of ≡ Some comp → slice_get comp.layers index ≡ Some layer
      → count ≤ length layer.effects → IsHeld (base_in (plain_of parts.project)) t
      → IsBoxedPlane (most_of parts.project.depth) count
      (plane_behind (sources_of (plain_scene parts set drawing) (shown (plain_scene parts set drawing))) (plain_comp comp) (plain_layer layer) (take count (plain_layer layer).effects) t)
