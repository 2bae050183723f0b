-- How far planes reach. What a set draws, and at which depth, is of no account.
use Rattle.std.specs.Prelude.{◌≡◌, ℕ, ℤ, List, take}
use Rattle.geom_rect.specs.declared.rect.Rect.{Rect}
use Rattle.project_model.specs.declared.node.NodeId.{NodeId}
use Rattle.project_model.specs.declared.plain.PlainComp.{PlainComp}
use Rattle.project_model.specs.declared.plain.PlainLayer.{PlainLayer}
use Rattle.effect_api.specs.declared.moment.Want.{Want}
use Rattle.effect_api.specs.Sets.{EffectSet, Drawing}
use Rattle.scene_meaning.specs.Boxes.{IsBoxed}
use Rattle.scene_meaning.specs.Parts.{drawn_from, wanted_by}
use Rattle.scene_meaning.specs.Scene.{SceneParts, plain_scene}
use Rattle.scene_meaning.specs.Shown.{plane, plane_behind, source_plane}

-- the rectangle is the extent of a node's plane at a tick
abbrev pub IsExtent : EffectSet → SceneParts → NodeId → ℤ → Rect → Type 0
IsExtent set scene node t rect = (drawing : Drawing) → rect ≡ (plane (plain_scene scene set drawing) node t).extent

-- of a layer's source
abbrev pub IsSourceExtent : EffectSet → SceneParts → PlainLayer → ℤ → Rect → Type 0
IsSourceExtent set scene layer t rect =
    (drawing : Drawing) → rect ≡ (source_plane (drawn_from (plain_scene scene set drawing)) layer t).extent

-- of a layer's plane behind so many of its effects
pub record IsExtentBehind (set : EffectSet) (scene : SceneParts) (comp : PlainComp) (layer : PlainLayer) (count : ℕ) (t : ℤ) (rect : Rect) : Type 0 where
  pub extent : (drawing : Drawing) → rect ≡ (plane_behind (drawn_from (plain_scene scene set drawing)) comp layer (take count layer.effects) t).extent
  pub boxed : IsBoxed count rect

-- of what the effect of a layer of this number wants, where it names these layers
pub record IsWantedExtent (set : EffectSet) (scene : SceneParts) (comp : PlainComp) (layer : PlainLayer) (number : ℕ) (layers : List ℕ) (want : Want) (rect : Rect) : Type 0 where
  pub extent : (drawing : Drawing) → rect ≡ (wanted_by (drawn_from (plain_scene scene set drawing)) comp layer number layers want).extent
  pub boxed : IsBoxed number rect
