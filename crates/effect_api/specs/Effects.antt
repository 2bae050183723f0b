-- What holds of what an effect draws.
use Rattle.std.specs.Prelude.{◌≡◌, ℕ, ℤ, List, length}
use Rattle.std.specs.List.{All}
use Rattle.geom_rect.specs.declared.rect.Rect.{Rect}
use Rattle.geom_rect.specs.Rect.{Has}
use Rattle.argb_pixel.specs.Depth.{IsDepth}
use Rattle.argb_pixel.specs.Pixel.{Argb, IsPremultiplied, clear}
use Rattle.argb_world.specs.Picture.{Picture, at}
use Rattle.comp_stack.specs.Stack.{Plane}
use Rattle.effect_api.specs.declared.moment.Want.{Want}
use Rattle.effect_api.specs.declared.moment.Ask.{Ask}
use Rattle.effect_api.specs.Planes.{IsPlane, AgreeOnNeed, extents_of}
use Rattle.effect_api.specs.Checked.{AreSums}

-- what an effect may be given to draw from: planes of this depth, one for each want, and sums of such planes, one list for
-- each ask
pub record IsInput (most : ℕ) (sums_of : ℕ → ℕ → Plane → List ℕ) (wants : List Want) (asks : List Ask) (planes : List Plane) (sums : List (List ℕ)) : Type 0 where
  pub depth : IsDepth most
  pub planes_are : All (IsPlane most) planes
  pub one_each : length planes ≡ length wants
  pub sums_are : AreSums most sums_of asks sums

-- a picture: premultiplied pixels, and none outside the bounds
pub record IsDrawing (most : ℕ) (bounds : Rect) (drawing : ℤ → ℤ → Argb) : Type 0 where
  pub pixels : (x y : ℤ) → IsPremultiplied most (drawing x y)
  pub outside : (x y : ℤ) → ¬ Has bounds x y → drawing x y ≡ clear

-- the world shows the drawing at each point of the part
abbrev pub Shows : Rect → (ℤ → ℤ → Argb) → Picture → Type 0
Shows part drawing world = (x y : ℤ) → Has part x y → at world x y ≡ drawing x y

-- the effect looks only at what it needs: planes that agree there, and the same sums, give the same pixels
abbrev pub IsLocal : ℕ → (ℕ → ℕ → Plane → List ℕ) → List Want → List Ask → List Rect → (Rect → ℕ → Rect) → (List Plane → List (List ℕ) → ℤ → ℤ → Argb) → Type 0
IsLocal most sums_of wants asks extents need draws =
    (rect : Rect) (planes others : List Plane) (sums : List (List ℕ))
    → IsInput most sums_of wants asks planes sums → IsInput most sums_of wants asks others sums
    → extents_of planes ≡ extents → extents_of others ≡ extents → AgreeOnNeed (need rect) planes others
    → (x y : ℤ) → Has rect x y → draws planes sums x y ≡ draws others sums x y
