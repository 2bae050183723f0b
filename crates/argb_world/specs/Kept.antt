-- How the pixels of a picture are kept: the bytes of the upper rows, and one colour for all others.
use Rattle.std.specs.Prelude.{◌≡◌, ℕ, ℤ, ◌+◌, ◌-◌, ◌*◌, ◌≤◌, List, ◌++◌, length, replicate}
use Rattle.geom_rect.specs.Rect.{width_of}
use Rattle.argb_pixel.specs.Depth.{IsDepth}
use Rattle.argb_pixel.specs.Pixel.{Argb}
use Rattle.argb_pixel.specs.Packed.{pixel_size, pixels_of, IsPacked}
use Rattle.argb_world.specs.Picture.{Picture, IsPicture, HasRow}

-- pixels in rows of a width
pub record Rows : Type 0 where
  pub width : ℕ
  pub pixels : List Argb

-- so many pixels: those of the bytes that are written, and the colour for the others
unfoldable pub kept : ℕ → List ℕ → ℕ → Argb → List Argb
kept most written count colour = pixels_of most written ++ replicate (count - length (pixels_of most written)) colour

-- whole rows are written, there is room to write all, and a row of the colour is at hand
pub record IsKept (most : ℕ) (bytes : List ℕ) (capacity count width : ℕ) (line : List ℕ) (colour : Argb) : Type 0 where
  pub depth : IsDepth most
  pub written : IsPacked most bytes
  pub row : IsPacked most line
  pub alike : pixels_of most line ≡ replicate width colour
  pub rows : ℕ
  pub whole : length (pixels_of most bytes) ≡ rows * width
  pub height : ℕ
  pub all : count ≡ height * width
  pub few : rows ≤ height
  pub room : pixel_size most * count ≤ capacity

-- so many pixels from a place on are of one row
pub record IsInRow (width start count : ℕ) : Type 0 where
  pub row : ℕ
  pub above : row * width ≤ start
  pub below : start + count ≤ (row + 1) * width

-- a picture of this depth, whose rows are kept at their width
pub record IsWorldOf (most : ℕ) (p : Picture) (width : ℕ) : Type 0 where
  pub depth : IsDepth most
  pub picture : IsPicture p
  pub wide : (y : ℤ) → HasRow p.part y → width ≡ width_of p.part
