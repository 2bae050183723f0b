-- Rows of points of a stack, from (x, y) to the right.
use Rattle.std.specs.Prelude.{ℕ, ℤ, pos, neg_ℤ, ◌+ℤ◌, ◌≤ℤ◌, List, map, Option}
use Rattle.std.specs.List.{range_with_len}
use Rattle.argb_pixel.specs.Pixel.{Argb}
use Rattle.comp_stack.specs.Stack.{PlacedPlane, PlacedLayer, pixel_at, matte_at, source_at}

-- the pixels of a placed plane
abbrev pub pixel_span : PlacedPlane → ℤ → ℤ → ℕ → List Argb
pixel_span placed x y n = map (λ k. pixel_at placed (x +ℤ pos k) y) (range_with_len 0 n)

-- the pixels of a matte
abbrev pub matte_span : Option PlacedPlane → ℤ → ℤ → ℕ → List Argb
matte_span over x y n = map (λ k. matte_at over (x +ℤ pos k) y) (range_with_len 0 n)

-- what a layer brings
abbrev pub source_span : ℕ → PlacedLayer → ℤ → ℤ → ℕ → List Argb
source_span most layer x y n = map (λ k. source_at most layer (x +ℤ pos k) y) (range_with_len 0 n)

-- the points of a stack, and a little beyond
abbrev pub IsNear : ℤ → Type 0
IsNear z = (neg_ℤ (pos 4294967296) ≤ℤ z) × (z ≤ℤ pos 4294967296)

-- a column of a stack
abbrev pub IsColumn : ℤ → Type 0
IsColumn z = (neg_ℤ (pos 2147483648) ≤ℤ z) × (z ≤ℤ pos 2147483648)
