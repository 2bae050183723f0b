-- What is put on the stack for a layer.
use Rattle.std.specs.Prelude.{◌≡◌, ℤ, ℕ, List, [], ◌∷◌, Option, IfSome, not, ◌&&◌, if◌then◌else◌, unsigned_abs}
use Rattle.std.specs.Option.{option_map}
use Rattle.geom_rect.specs.declared.rect.Rect.{Rect}
use Rattle.geom_rect.specs.Rect.{Has}
use Rattle.comp_stack.specs.Stack.{Plane, PlacedPlane, PlacedLayer, matte_at, pixel_at, source_at}
use Rattle.comp_stack.specs.Layers.{IsShown, IsPlaced, placed_of as plane_placed, layer_of}
use Rattle.comp_stack.specs.declared.layer.Placed.{Placed}
use Rattle.comp_stack.specs.declared.layer.Shown.{Shown}
use Rattle.param_stream.specs.Curve.{value_at}
use Rattle.project_model.specs.declared.plain.PlainLayer.{PlainLayer}
use Rattle.project_model.specs.declared.plain.PlainComp.{PlainComp}
use Rattle.scene_meaning.specs.Shown.{Sources, is_seen, serves_as_matte, matte_plane, placed_of}

-- a plane where a layer's streams put it at a tick
abbrev pub plane_at : ℕ → ℤ → PlainLayer → Plane → PlacedPlane
plane_at base t layer plane = record {
  plane = plane;
  x = value_at base layer.x t;
  y = value_at base layer.y t;
  opacity = unsigned_abs (value_at base layer.opacity t);
}

-- a placed plane that shows what this one shows at each point of the area
pub record IsShownOn {most : ℕ} (area : Rect) (placed : PlacedPlane) (shown : Shown most) : Type 0 where
  pub fits : IsShown shown
  pub opacity : shown.opacity ≡ placed.opacity
  pub points : (x y : ℤ) → Has area x y → pixel_at (plane_placed shown) x y ≡ pixel_at placed x y

-- what the matte of the layer of this index is taken from, over the area
pub record IsOfMatte {most : ℕ} (area : Rect) (sources : Sources) (t : ℤ) (comp : PlainComp) (index : ℕ) (layer : PlainLayer) (over : Option (Shown most)) : Type 0 where
  pub fits : IfSome over IsShown
  pub points : (x y : ℤ) → Has area x y → matte_at (option_map plane_placed over) x y ≡ matte_at (matte_plane sources comp t index layer) x y

-- the layer of this index as the stack sees it at a tick, over the area
pub record IsOfLayer {most : ℕ} (area : Rect) (sources : Sources) (t : ℤ) (comp : PlainComp) (index : ℕ) (layer : PlainLayer) (placed : Placed most) : Type 0 where
  pub fits : IsPlaced placed
  pub mode : placed.mode ≡ (placed_of sources comp t index layer).mode
  pub points : (x y : ℤ) → Has area x y → source_at most (layer_of placed) x y ≡ source_at most (placed_of sources comp t index layer) x y

-- what the layer of this index brings to the stack at a tick: itself, where it is seen and is no matte
abbrev pub brought : Sources → PlainComp → ℤ → ℕ → PlainLayer → List PlacedLayer
brought sources comp t index layer =
    if is_seen sources.base comp t layer && not (serves_as_matte comp index) then placed_of sources comp t index layer ∷ [] else []
