-- Files of clips, both ways.
use Rattle.std.specs.Prelude.{◌≡◌, ℕ, ◌<◌, ℤ, pos, List, ◌++◌, map, length, take, drop, flat_map, Ok}
use Rattle.std.specs.List.{All, range_with_len}
use Rattle.argb_pixel.specs.Depth.{IsDepth}
use Rattle.argb_pixel.specs.Pixel.{Argb, IsPremultiplied}
use Rattle.argb_pixel.specs.Packed.{packed}
use Rattle.argb_world.specs.Picture.{Picture, IsPicture, HasRow}
use Rattle.argb_world.specs.Laws.{ArePackedRow, rows_down}
use Rattle.project_model.specs.declared.clip.ClipUse.{ClipUse}
use Rattle.project_model.specs.Bounds.{most_of}
use Rattle.frame_file.specs.Afr.{header_bytes, pixel_bytes, picture_bytes, world_bytes}
use Rattle.project_model.specs.Clip.{IsReadable, pixel_count}
use Rattle.frame_file.specs.Clip.{header_of, clip_of, pictures_of}

-- the file of a clip with these pixels, whose first frame has this number
abbrev pub file_of : ClipUse → ℕ → List Argb → List ℕ
file_of declared first pixels = header_bytes (header_of declared first) ++ flat_map (pixel_bytes declared.depth) pixels

-- pixels of the declared depth, as many as are declared
pub record AreDeclared (declared : ClipUse) (pixels : List Argb) : Type 0 where
  pub count : length pixels ≡ pixel_count declared
  pub premultiplied : All (IsPremultiplied (most_of declared.depth)) pixels

-- each is a byte
abbrev pub AreBytes : List ℕ → Type 0
AreBytes bytes = All (λ byte. byte < 256) bytes

-- the bytes of the first frame's number
abbrev pub first_bytes : List ℕ → List ℕ
first_bytes bytes = take 4 (drop 21 bytes)

-- The file of a clip is read as its pixels, and no other file with the same first frame is.
pub record ReadsBack : Type 0 where
  pub reads : (declared : ClipUse) (first : ℕ) (pixels : List Argb) → IsReadable declared → AreDeclared declared pixels
      → clip_of (file_of declared first pixels) declared ≡ Ok (pictures_of declared pixels)
  pub no_other : (declared : ClipUse) (pixels : List Argb) (bytes other : List ℕ) → IsReadable declared → AreBytes bytes → AreBytes other
      → clip_of bytes declared ≡ Ok (pictures_of declared pixels) → clip_of other declared ≡ Ok (pictures_of declared pixels)
      → first_bytes bytes ≡ first_bytes other → bytes ≡ other

-- the pixels of a picture of this size: its rows from top to bottom, each from left to right
abbrev pub picture_pixels : ℕ → ℕ → (ℤ → ℤ → Argb) → List Argb
picture_pixels width height at =
    flat_map (λ y. map (λ x. at (pos x) (pos y)) (range_with_len 0 width)) (range_with_len 0 height)

-- a picture is written as the bytes of its pixels, one after another
abbrev pub WritesPixels : Type 0
WritesPixels = (depth width height : ℕ) (at : ℤ → ℤ → Argb) → picture_bytes depth width height at ≡ flat_map (pixel_bytes depth) (picture_pixels width height at)

-- a picture is written as the bytes of all its pixels, which are its packed rows from top to bottom
pub record WritesPackedRows : Type 0 where
  pub pixels : (most : ℕ) (p : Picture) → IsDepth most → IsPicture p → world_bytes most p ≡ flat_map (packed most) p.pixels
  pub rows : (most : ℕ) (p : Picture) (row : ℤ → List ℕ) → IsDepth most → IsPicture p
      → ((y : ℤ) → HasRow p.part y → ArePackedRow most p y (row y)) → world_bytes most p ≡ rows_down p.part row
