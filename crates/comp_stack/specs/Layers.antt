-- The layers that a call is given, as plain placed layers, and what they have to meet.
use Rattle.std.specs.Prelude.{ℕ, ◌≤◌, ℤ, pos, neg_ℤ, ◌≤ℤ◌, IfSome}
use Rattle.std.specs.Option.{option_map}
use Rattle.argb_world.specs.Picture.{Picture, at}
use Rattle.comp_stack.specs.declared.layer.Shown.{Shown}
use Rattle.comp_stack.specs.declared.layer.Placed.{Placed}
use Rattle.comp_stack.specs.Stack.{Plane, PlacedPlane, PlacedLayer}

-- a world as a plane: transparent outside its part
abbrev pub plane_of : Picture → Plane
plane_of world = record { extent = world.extent; at = at world }

abbrev pub placed_of : {most : ℕ} → Shown most → PlacedPlane
placed_of shown = record { plane = plane_of shown.world; x = shown.x; y = shown.y; opacity = shown.opacity }

abbrev pub layer_of : {most : ℕ} → Placed most → PlacedLayer
layer_of placed = record {
  layer = placed_of placed.layer;
  mode = placed.mode;
  matte = placed.matte;
  over = option_map placed_of placed.over;
}

-- a position is a signed 16 bit number
abbrev pub IsPosition : ℤ → Type 0
IsPosition z = (neg_ℤ (pos 32768) ≤ℤ z) × (z ≤ℤ pos 32767)

-- opacity is in 1/10000
pub record IsShown {most : ℕ} (shown : Shown most) : Type 0 where
  pub opacity : shown.opacity ≤ 10000
  pub across : IsPosition shown.x
  pub down : IsPosition shown.y

-- the layer and what its matte is taken from
pub record IsPlaced {most : ℕ} (placed : Placed most) : Type 0 where
  pub layer : IsShown placed.layer
  pub over : IfSome placed.over IsShown
