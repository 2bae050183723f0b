-- Packed pixels: the bytes of AFR, big endian. A pixel is its alpha, red, green and blue, of one byte each at 8 bit and of
-- two at 16.
use Rattle.std.specs.Prelude.{◌≡◌, ℕ, ◌+◌, ◌*◌, ◌==◌, if◌then◌else◌, List, [], ◌∷◌, ◌++◌, All, length}
use Rattle.std.specs.Int.{w16, to_be_bytes}
use Rattle.argb_pixel.specs.Pixel.{Argb, IsPremultiplied}

-- how many bytes a pixel has
abbrev pub pixel_size : ℕ → ℕ
pixel_size most = if most == 255 then 4 else 8

-- the bytes of a channel
abbrev pub packed_channel : ℕ → ℕ → List ℕ
packed_channel most c = if most == 255 then c ∷ [] else to_be_bytes w16 c

-- the bytes of a pixel
abbrev pub packed : ℕ → Argb → List ℕ
packed most p = packed_channel most p.a ++ packed_channel most p.r ++ packed_channel most p.g ++ packed_channel most p.b

-- a channel of two bytes
abbrev pub channel_of : ℕ → ℕ → ℕ
channel_of high low = 256 * high + low

-- the pixels that bytes are; what is too short for a pixel is none
abbrev pub pixels_of_8 : List ℕ → List Argb
pixels_of_8 (a ∷ r ∷ g ∷ b ∷ rest) = record { a = a; r = r; g = g; b = b } ∷ pixels_of_8 rest
pixels_of_8 rest = []

abbrev pub pixels_of_16 : List ℕ → List Argb
pixels_of_16 (a ∷ a' ∷ r ∷ r' ∷ g ∷ g' ∷ b ∷ b' ∷ rest) =
    record { a = channel_of a a'; r = channel_of r r'; g = channel_of g g'; b = channel_of b b' } ∷ pixels_of_16 rest
pixels_of_16 rest = []

abbrev pub pixels_of : ℕ → List ℕ → List Argb
pixels_of most bytes = if most == 255 then pixels_of_8 bytes else pixels_of_16 bytes

-- the bytes are whole pixels, and each pixel is premultiplied
pub record IsPacked (most : ℕ) (bytes : List ℕ) : Type 0 where
  pub whole : length bytes ≡ pixel_size most * length (pixels_of most bytes)
  pub premultiplied : All (IsPremultiplied most) (pixels_of most bytes)
