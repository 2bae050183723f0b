-- The sums of the channels of pixels.
use Rattle.std.specs.Prelude.{ℕ, ◌+◌, ◌≤◌, pos, List, flat_map}
use Rattle.std.specs.List.{range_with_len, sum_by}
use Rattle.argb_pixel.specs.Pixel.{Argb}
use Rattle.argb_world.specs.Picture.{Picture, row_of}
use Rattle.frame_span.specs.declared.sums.Sums.{Sums}

abbrev pub sums_of : List Argb → Sums
sums_of pixels = record {
  a = sum_by (λ p. p.a) pixels;
  r = sum_by (λ p. p.r) pixels;
  g = sum_by (λ p. p.g) pixels;
  b = sum_by (λ p. p.b) pixels;
}

-- each with the other's
abbrev pub both_sums : Sums → Sums → Sums
both_sums s t = record { a = s.a + t.a; r = s.r + t.r; g = s.g + t.g; b = s.b + t.b }

pub record AreAtMost (most : ℕ) (s : Sums) : Type 0 where
  pub alpha : s.a ≤ most
  pub red : s.r ≤ most
  pub green : s.g ≤ most
  pub blue : s.b ≤ most

-- so many rows of a picture, from the height 0 on
abbrev pub first_rows : Picture → ℕ → List Argb
first_rows picture rows = flat_map (λ y. row_of picture (pos y)) (range_with_len 0 rows)
