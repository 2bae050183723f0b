-- The analyses: what is counted over the pixels of a plane.
use Rattle.std.specs.Prelude.{ℕ, ◌*◌, ◌/◌, ◌==◌, ℤ, pos, ◌+ℤ◌, Bool, not, ◌&&◌, List, [], ◌∷◌, map, flat_map, sum_by, count_by, if◌then◌else◌}
use Rattle.std.specs.List.{range_with_len}
use Rattle.geom_rect.specs.Rect.{count_between, width_of}
use Rattle.argb_pixel.specs.Pixel.{Argb, luma_of}
use Rattle.comp_stack.specs.Stack.{Plane}

-- a row of a plane at a height, from the left
abbrev pub line_of : Plane → ℤ → List Argb
line_of plane y = map (λ k. plane.at (plane.extent.left +ℤ pos k) y) (range_with_len 0 (width_of plane.extent))

-- so many rows, from the top
abbrev pub rows_of : Plane → ℕ → List Argb
rows_of plane rows = flat_map (λ k. line_of plane (plane.extent.top +ℤ pos k)) (range_with_len 0 rows)

-- a pixel for each point of the extent
abbrev pub pixels_in : Plane → List Argb
pixels_in plane = rows_of plane (count_between plane.extent.top plane.extent.bottom)

-- how bright a pixel is beside its alpha, from 0 to 255: `floor(luma*255 / a)`
abbrev pub level_of : Argb → ℕ
level_of p = luma_of p * 255 / p.a

-- whether a pixel counts at a level: it is not transparent, and that is its level
abbrev pub is_at_level : ℕ → Argb → Bool
is_at_level level p = not (p.a == 0) && level_of p == level

-- how many pixels are at each of the 256 levels
unfoldable pub histogram_of : List Argb → List ℕ
histogram_of pixels = map (λ level. count_by (is_at_level level) pixels) (range_with_len 0 256)

-- the sum of the luma, and that of alpha
abbrev pub light_of : List Argb → List ℕ
light_of pixels = sum_by luma_of pixels ∷ sum_by (λ p. p.a) pixels ∷ []

-- class 1 is the histogram, class 2 the light, and there is no other
abbrev pub class_sums : ℕ → Plane → List ℕ
class_sums class plane =
    if class == 1 then histogram_of (pixels_in plane) else (if class == 2 then light_of (pixels_in plane) else [])

-- a class answers each question alike
abbrev pub analysis_sums : (class ask : ℕ) → Plane → List ℕ
analysis_sums class ask plane = class_sums class plane
