-- What is drawn along a row of points.
use Rattle.std.specs.Prelude.{ℕ, ℤ, pos, neg_ℤ, ◌+ℤ◌, ◌≤ℤ◌, List, map}
use Rattle.std.specs.List.{range_with_len}
use Rattle.argb_pixel.specs.Pixel.{Argb}
use Rattle.effect_api.specs.Planes.{IsSide}

-- so many points from (x, y) to the right
abbrev pub drawn_span : (ℤ → ℤ → Argb) → ℤ → ℤ → ℕ → List Argb
drawn_span drawing x y n = map (λ k. drawing (x +ℤ pos k) y) (range_with_len 0 n)

-- a row within a hundred thousand of zero
pub record IsNearRow (x y : ℤ) (n : ℕ) : Type 0 where
  pub across : IsSide x
  pub down : IsSide y
  pub end : (x +ℤ pos n) ≤ℤ pos 100000

-- no further from zero than two columns of rectangles can be apart
abbrev pub IsWide : ℤ → Type 0
IsWide z = (neg_ℤ (pos 4294967296) ≤ℤ z) × (z ≤ℤ pos 4294967296)
