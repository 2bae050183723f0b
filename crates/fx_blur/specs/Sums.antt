-- Sums of pixels, each channel by itself, and their means.
use Rattle.std.specs.Prelude.{ℕ, zero, suc, ◌+◌, ℤ, pos, ◌+ℤ◌}
use Rattle.geom_rect.specs.declared.rect.Rect.{Rect}
use Rattle.geom_rect.specs.Rect.{count_between, width_of}
use Rattle.argb_pixel.specs.Pixel.{Argb, clear, each_channel, rounded}

-- two pixels, or two sums, added
abbrev pub plus : Argb → Argb → Argb
plus p q = record { a = p.a + q.a; r = p.r + q.r; g = p.g + q.g; b = p.b + q.b }

-- the sum of so many, numbered from 0
abbrev pub total : (ℕ → Argb) → ℕ → Argb
total each zero = clear
total each (suc n) = plus (total each n) (each n)

-- the sum of so many points of a column, from (x, y) down
abbrev pub column_sum : (ℤ → ℤ → Argb) → ℤ → ℤ → ℕ → Argb
column_sum pixel x y rows = total (λ j. pixel x (y +ℤ pos j)) rows

-- the sum over all points of a rectangle
abbrev pub sum_over : (ℤ → ℤ → Argb) → Rect → Argb
sum_over pixel rect =
    total (λ i. column_sum pixel (rect.left +ℤ pos i) rect.top (count_between rect.top rect.bottom)) (width_of rect)

-- the mean of so many, of which this is the sum: each channel to the nearest whole number, a half up
abbrev pub mean_of : ℕ → Argb → Argb
mean_of count sum = each_channel (λ s. rounded s count) sum
