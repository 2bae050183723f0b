-- What the sums of columns and the rows are while a picture is gone through from the top.
use Rattle.std.specs.Prelude.{◌≡◌, ℕ, ◌+◌, ◌*◌, ◌<◌, ◌≤◌, ◌-◌, ℤ, pos, ◌+ℤ◌, ◌-ℤ◌, ◌≤ℤ◌, ◌<ℤ◌, int_le, int_lt, ◌&&◌, if◌then◌else◌, List, length, slice_index_or}
use Rattle.geom_rect.specs.Rect.{count_between, positive_part}
use Rattle.argb_pixel.specs.Depth.{IsDepth}
use Rattle.argb_pixel.specs.Pixel.{Argb, IsPremultiplied, clear}
use Rattle.fx_blur.specs.Sums.{total, column_sum, mean_of}
use Rattle.fx_blur.specs.Mosaic.{block_start, block_end}

-- each channel of the second is at most that of the first
pub record Holds (whole part : Argb) : Type 0 where
  pub alpha : part.a ≤ whole.a
  pub red : part.r ≤ whole.r
  pub green : part.g ≤ whole.g
  pub blue : part.b ≤ whole.b

-- what is left of a sum
abbrev pub minus : Argb → Argb → Argb
minus p q = record { a = p.a - q.a; r = p.r - q.r; g = p.g - q.g; b = p.b - q.b }

-- the sums of so many points of the columns from (x, y) on, and their pixels premultiplied
pub record AreColumns (most : ℕ) (pixel : ℤ → ℤ → Argb) (x y : ℤ) (rows : ℕ) (columns : List Argb) : Type 0 where
  pub sums : (k : ℕ) → k < length columns → slice_index_or columns k clear ≡ column_sum pixel (x +ℤ pos k) y rows
  pub pixels : (k j : ℕ) → k < length columns → j < rows → IsPremultiplied most (pixel (x +ℤ pos k) (y +ℤ pos j))

-- the columns have the block of x, where the first of them stands at `start`
abbrev pub HasBlock : ℕ → ℤ → ℤ → ℤ → ℕ → ℤ → Type 0
HasBlock size low high start columns x =
    (start ≤ℤ block_start size low x) × (block_end size low high x ≤ℤ (start +ℤ pos columns))

-- the pixel of the block of x, by the sums of so many rows of each column: transparent outside the sides
abbrev pub block_mean : ℕ → ℤ → ℤ → ℤ → ℕ → List Argb → ℤ → Argb
block_mean size low high start rows columns x =
    if int_le low x && int_lt x high
    then mean_of (count_between (block_start size low x) (block_end size low high x) * rows)
    (total (λ k. slice_index_or columns (positive_part (block_start size low x -ℤ start) + k) clear) (count_between (block_start size low x) (block_end size low high x)))
    else clear

-- the row is that of the drawing at each height from low, inclusive, to high, exclusive
abbrev pub ServesBand : (ℤ → ℤ → Argb) → ℤ → ℤ → ℤ → List Argb → Type 0
ServesBand drawing left low high row =
    (y : ℤ) → low ≤ℤ y → y <ℤ high → (i : ℕ) → i < length row → slice_index_or row i clear ≡ drawing (left +ℤ pos i) y

-- columns of so many rows, and blocks of a size, as they may be
pub record AreSummed (most size rows : ℕ) (columns : List Argb) : Type 0 where
  pub depth : IsDepth most
  pub some : 0 < size
  pub few : size ≤ 1024
  pub any : 0 < rows
  pub short : rows ≤ 1024
  pub within : (k : ℕ) → k < length columns → IsPremultiplied (most * rows) (slice_index_or columns k clear)
