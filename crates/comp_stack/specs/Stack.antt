-- Layers in a stack, at each point by itself. The kinds of matte are those of the After Effects C++ SDK Guide; the modes and
-- what is computed are this project's own.
use Rattle.std.specs.Prelude.{ℕ, ℤ, ◌-ℤ◌, List, [], ◌∷◌, Option, Some, None, if◌then◌else◌}
use Rattle.geom_rect.specs.declared.rect.Rect.{Rect}
use Rattle.geom_rect.specs.Rect.{has, frame_rect}
use Rattle.argb_pixel.specs.Pixel.{Argb, clear, scale_of}
use Rattle.transfer_mode.specs.declared.mode.Mode.{Mode}
use Rattle.transfer_mode.specs.Transfer.{blend_of}
use Rattle.track_matte.specs.declared.matte.Matte.{Matte}
use Rattle.track_matte.specs.Mattes.{matted}

-- a picture as a whole: where it lies, and the pixel at each point
pub record Plane : Type 0 where
  pub extent : Rect
  pub at : ℤ → ℤ → Argb

-- one colour over a rectangle at the origin
abbrev pub solid_plane : ℕ → ℕ → Argb → Plane
solid_plane width height colour = record {
  extent = frame_rect width height;
  at = λ x y. if has (frame_rect width height) x y then colour else clear;
}

-- a plane at a position, under an opacity in 1/10000
pub record PlacedPlane : Type 0 where
  pub plane : Plane
  pub x : ℤ
  pub y : ℤ
  pub opacity : ℕ

-- a layer as the stack sees it; `over` is what its matte is taken from, none where that is not seen
pub record PlacedLayer : Type 0 where
  pub layer : PlacedPlane
  pub mode : Mode
  pub matte : Matte
  pub over : Option PlacedPlane

-- the pixel at a point of the stack, before opacity
abbrev pub pixel_at : PlacedPlane → ℤ → ℤ → Argb
pixel_at placed x y = placed.plane.at (x -ℤ placed.x) (y -ℤ placed.y)

-- the matte's pixel: at its own position, under its own opacity, and transparent where it is not seen
abbrev pub matte_at : Option PlacedPlane → ℤ → ℤ → Argb
matte_at None x y = clear
matte_at (Some placed) x y = scale_of (pixel_at placed x y) placed.opacity

-- what a layer brings to a point: its pixel, as much as its matte lets through, under its opacity
abbrev pub source_at : ℕ → PlacedLayer → ℤ → ℤ → Argb
source_at most layer x y =
    scale_of (matted most layer.matte (matte_at layer.over x y) (pixel_at layer.layer x y)) layer.layer.opacity

-- a layer over what is below it, at a point
abbrev pub step : ℕ → PlacedLayer → ℤ → ℤ → Argb → Argb
step most layer x y below = blend_of most layer.mode (source_at most layer x y) below

-- the layers from the last to the first, which is the topmost, over what is below them all
abbrev pub stack_over : ℕ → List PlacedLayer → ℤ → ℤ → Argb → Argb
stack_over most [] x y below = below
stack_over most (layer ∷ lower) x y below = step most layer x y (stack_over most lower x y below)

-- the layers over nothing
abbrev pub stack_at : ℕ → List PlacedLayer → ℤ → ℤ → Argb
stack_at most layers x y = stack_over most layers x y clear
