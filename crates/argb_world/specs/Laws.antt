-- What the definitions of a picture imply.
use Rattle.std.specs.Prelude.{◌≡◌, ℕ, ◌<◌, ℤ, pos, ◌+ℤ◌, List, All, flat_map}
use Rattle.std.specs.List.{range_with_len}
use Rattle.geom_rect.specs.Rect.{count_between}
use Rattle.geom_rect.specs.declared.rect.Rect.{Rect}
use Rattle.argb_pixel.specs.Depth.{IsDepth}
use Rattle.argb_pixel.specs.Packed.{packed, pixels_of, IsPacked}
use Rattle.argb_world.specs.Picture.{Picture, IsPicture, SameExtentAndPart, HasRow, at, row_of}

-- a frame and what is at each point tell the whole picture
abbrev pub PointsTellThePicture : Type 0
PointsTellThePicture = (p q : Picture) → IsPicture p → IsPicture q → SameExtentAndPart p q → ((x y : ℤ) → at q x y ≡ at p x y) → q ≡ p

-- bytes that are the pixels of the part at the height y, from the left: what `packed_row` answers
pub record ArePackedRow (most : ℕ) (p : Picture) (y : ℤ) (bytes : List ℕ) : Type 0 where
  pub small : All (λ byte. byte < 256) bytes
  pub packed : IsPacked most bytes
  pub pixels : pixels_of most bytes ≡ row_of p y

-- what stands at each height of a rectangle, from its top to its bottom
abbrev pub rows_down : Rect → (ℤ → List ℕ) → List ℕ
rows_down part row = flat_map (λ k. row (part.top +ℤ pos k)) (range_with_len 0 (count_between part.top part.bottom))

-- the packed rows of a picture, from top to bottom, are the bytes of its pixels
abbrev pub PackedRowsAreThePicture : Type 0
PackedRowsAreThePicture = (most : ℕ) (p : Picture) (row : ℤ → List ℕ) → IsDepth most → IsPicture p
    → ((y : ℤ) → HasRow p.part y → ArePackedRow most p y (row y)) → rows_down p.part row ≡ flat_map (packed most) p.pixels
