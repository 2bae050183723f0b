-- What the arithmetic of pixels implies.
use Rattle.std.specs.Prelude.{◌≡◌, ℕ, ◌<◌, List, [], ◌∷◌, All, flat_map}
use Rattle.argb_pixel.specs.Depth.{IsDepth}
use Rattle.argb_pixel.specs.Packed.{packed, pixels_of, IsPacked}
use Rattle.argb_pixel.specs.Pixel.{Argb, IsPremultiplied, depth_of}

-- an 8 bit pixel in 16 bit and back is as it was
abbrev pub SixteenAndBack : Type 0
SixteenAndBack = (p : Argb) → IsPremultiplied 255 p → depth_of 32768 255 (depth_of 255 32768 p) ≡ p

-- white and black, and grey as an example worked by hand
pub record WorkedDepths : Type 0 where
  pub white : depth_of 255 32768 record { a = 255; r = 255; g = 255; b = 255 } ≡ record { a = 32768; r = 32768; g = 32768; b = 32768 }
  pub grey : depth_of 255 32768 record { a = 128; r = 128; g = 0; b = 128 } ≡ record { a = 16448; r = 16448; g = 0; b = 16448 }

-- the bytes of a pixel are that pixel
abbrev pub PackedAndRead : Type 0
PackedAndRead = (most : ℕ) (p : Argb) → IsDepth most → IsPremultiplied most p → pixels_of most (packed most p) ≡ p ∷ []

-- the bytes of the pixels of a row are the row
abbrev pub ReadAndPacked : Type 0
ReadAndPacked = (most : ℕ) (bytes : List ℕ) → IsDepth most → IsPacked most bytes → All (λ byte. byte < 256) bytes
    → flat_map (packed most) (pixels_of most bytes) ≡ bytes

-- examples worked by hand
pub record WorkedPacked : Type 0 where
  pub half_red : packed 255 record { a = 128; r = 128; g = 0; b = 0 } ≡ 128 ∷ 128 ∷ 0 ∷ 0 ∷ []
  pub deep : packed 32768 record { a = 32768; r = 16384; g = 0; b = 1 } ≡ 128 ∷ 0 ∷ 64 ∷ 0 ∷ 0 ∷ 0 ∷ 0 ∷ 1 ∷ []
