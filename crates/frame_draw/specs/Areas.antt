-- What is drawn of a plane.
use Rattle.std.specs.Prelude.{◌≡◌, ℕ, ◌≤◌, ℤ, pos, ◌≤ℤ◌}
use Rattle.geom_rect.specs.declared.rect.Rect.{Rect}
use Rattle.geom_rect.specs.Rect.{meet_of}
use Rattle.argb_world.specs.Picture.{Picture}
use Rattle.comp_stack.specs.Stack.{Plane}
use Rattle.comp_stack.specs.Layers.{plane_of}
use Rattle.effect_api.specs.Planes.{AgreeOn}
use Rattle.smart_plan.specs.Plan.{trimmed}
use Rattle.scene_meaning.specs.Planes.{IsBoxedPlane}

-- the part of an extent that is drawn for a request
abbrev pub area_in : Rect → Rect → Rect
area_in extent request = trimmed (meet_of extent request)

-- a side of a part of a picture
abbrev pub IsWithinPicture : ℤ → Type 0
IsWithinPicture z = (pos 0 ≤ℤ z) × (z ≤ℤ pos 4096)

-- a part of a picture
pub record IsArea (area : Rect) : Type 0 where
  pub left_in : IsWithinPicture area.left
  pub top_in : IsWithinPicture area.top
  pub right_in : IsWithinPicture area.right
  pub bottom_in : IsWithinPicture area.bottom

-- a part of a picture of this width and height
pub record IsPartOf (width height : ℕ) (area : Rect) : Type 0 where
  pub left_in : pos 0 ≤ℤ area.left
  pub across : area.left ≤ℤ area.right
  pub right_in : area.right ≤ℤ pos width
  pub top_in : pos 0 ≤ℤ area.top
  pub down : area.top ≤ℤ area.bottom
  pub bottom_in : area.bottom ≤ℤ pos height

-- a world that stands for a plane where it is requested: it has the plane's extent, and shows the plane at each point of the request
pub record StandsFor (request : Rect) (plane : Plane) (world : Picture) : Type 0 where
  pub extent : world.extent ≡ plane.extent
  pub agrees : AgreeOn request (plane_of world) plane

-- a plane within the box of at most eight effects
pub record IsNear (most : ℕ) (plane : Plane) : Type 0 where
  pub count : ℕ
  pub few : count ≤ 8
  pub boxed : IsBoxedPlane most count plane
