-- Planes as effects are given them.
use Rattle.std.specs.Prelude.{◌≡◌, ℕ, ◌<◌, ℤ, pos, neg_ℤ, ◌≤ℤ◌, List, [], ◌∷◌, length, map, slice_index_or}
use Rattle.geom_rect.specs.declared.rect.Rect.{Rect}
use Rattle.geom_rect.specs.Rect.{Has, cover_of, origin}
use Rattle.argb_pixel.specs.Pixel.{IsPremultiplied, clear}
use Rattle.comp_stack.specs.Stack.{Plane}

-- what a plane is: premultiplied pixels, and none outside its extent
pub record IsPlane (most : ℕ) (plane : Plane) : Type 0 where
  pub pixels : (x y : ℤ) → IsPremultiplied most (plane.at x y)
  pub outside : (x y : ℤ) → ¬ Has plane.extent x y → plane.at x y ≡ clear

-- the plane of a want by its number
abbrev pub plane_at : List Plane → ℕ → Plane
plane_at planes i = slice_index_or planes i record { extent = origin; at = λ x y. clear }

-- the extent of a want by its number
abbrev pub extent_at : List Rect → ℕ → Rect
extent_at extents i = slice_index_or extents i origin

abbrev pub extents_of : List Plane → List Rect
extents_of planes = map (λ plane. plane.extent) planes

-- the least rectangle with all points of all
abbrev pub cover_all : List Rect → Rect
cover_all [] = origin
cover_all (rect ∷ rects) = cover_of rect (cover_all rects)

-- within a hundred thousand of zero
abbrev pub IsSide : ℤ → Type 0
IsSide z = (neg_ℤ (pos 100000) ≤ℤ z) × (z ≤ℤ pos 100000)

-- all four sides are
pub record HasSides (rect : Rect) : Type 0 where
  pub left_near : IsSide rect.left
  pub top_near : IsSide rect.top
  pub right_near : IsSide rect.right
  pub bottom_near : IsSide rect.bottom

-- two planes show the same at each point of the rectangle
abbrev pub AgreeOn : Rect → Plane → Plane → Type 0
AgreeOn rect plane other = (x y : ℤ) → Has rect x y → plane.at x y ≡ other.at x y

-- each two of the planes agree on the rectangle that is needed of them
abbrev pub AgreeOnNeed : (ℕ → Rect) → List Plane → List Plane → Type 0
AgreeOnNeed need planes others = (i : ℕ) → i < length planes → AgreeOn (need i) (plane_at planes i) (plane_at others i)
