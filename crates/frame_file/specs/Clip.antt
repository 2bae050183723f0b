-- Reading a clip: what its declaration asks of the bytes of its file, and the pictures that these are.
use Rattle.std.specs.Prelude.{◌≡◌, ℕ, ◌+◌, ◌-◌, ◌*◌, ◌/◌, ◌%◌, ◌≤◌, ◌==◌, nat_lt, nat_le, ◌⊎◌, ◌&&◌, ◌||◌, Bool, not, unsigned_abs, List, [], ◌∷◌, codes, length, take, drop, get_or, bytes_eq, if◌then◌else◌, Option, Some, None, Result, Ok, Err}
use Rattle.std.specs.Int.{w32, to_be_bytes}
use Rattle.std.specs.List.{position_from}
use Rattle.argb_pixel.specs.Pixel.{Argb, clear, depth_of}
use Rattle.project_model.specs.declared.clip.ClipUse.{ClipUse}
use Rattle.project_model.specs.Bounds.{most_of, header_length, greatest_side, most_frames, is_colour}
use Rattle.project_model.specs.Clip.{pixel_size, clip_length}
use Rattle.frame_file.specs.declared.header.Header.{Header}
use Rattle.frame_file.specs.declared.error.ClipError.{ClipError}
use Rattle.frame_file.specs.declared.error.ClipError.TheVariants.{BadMagic, BadHeader, Short, Trailing, BadPixel}

-- the header that the declaration asks for, but for the first frame, which may be any
abbrev pub header_of : ClipUse → ℕ → Header
header_of declared first = record {
  width = declared.width;
  height = declared.height;
  depth = declared.depth;
  value = unsigned_abs declared.frame.value;
  scale = declared.frame.scale;
  first = first;
  count = declared.frames;
}

-- the bytes from the place on are not these
abbrev pub differs : ℕ → List ℕ → List ℕ → Bool
differs place field bytes = not (bytes_eq (take (length field) (drop place bytes)) field)

-- the first field that is not the declaration's: width, height, depth, value, scale, count
abbrev pub header_fault : ClipUse → List ℕ → Option ℕ
header_fault declared bytes =
    if differs 4 (to_be_bytes w32 declared.width) bytes then Some 0
    else if differs 8 (to_be_bytes w32 declared.height) bytes then Some 1
    else if differs 12 (declared.depth ∷ []) bytes then Some 2
    else if differs 13 (to_be_bytes w32 (unsigned_abs declared.frame.value)) bytes then Some 3
    else if differs 17 (to_be_bytes w32 declared.frame.scale) bytes then Some 4
    else if differs 25 (to_be_bytes w32 declared.frames) bytes then Some 5
    else None

-- pixels with one byte a channel
abbrev pub pixels_of_8 : List ℕ → List Argb
pixels_of_8 (a ∷ r ∷ g ∷ b ∷ rest) = record { a = a; r = r; g = g; b = b } ∷ pixels_of_8 rest
pixels_of_8 rest = []

-- a channel of two bytes, the greater part first
abbrev pub channel_of : ℕ → ℕ → ℕ
channel_of high low = 256 * high + low

-- pixels with two bytes a channel
abbrev pub pixels_of_16 : List ℕ → List Argb
pixels_of_16 (a ∷ a' ∷ r ∷ r' ∷ g ∷ g' ∷ b ∷ b' ∷ rest) =
    record { a = channel_of a a'; r = channel_of r r'; g = channel_of g g'; b = channel_of b b' } ∷ pixels_of_16 rest
pixels_of_16 rest = []

-- the pixel that begins the bytes, with one byte a channel, and with two
abbrev pub head_of_8 : List ℕ → Argb
head_of_8 bytes = record { a = get_or bytes 0 0; r = get_or bytes 1 0; g = get_or bytes 2 0; b = get_or bytes 3 0 }

abbrev pub head_of_16 : List ℕ → Argb
head_of_16 bytes = record {
  a = channel_of (get_or bytes 0 0) (get_or bytes 1 0);
  r = channel_of (get_or bytes 2 0) (get_or bytes 3 0);
  g = channel_of (get_or bytes 4 0) (get_or bytes 5 0);
  b = channel_of (get_or bytes 6 0) (get_or bytes 7 0);
}

-- the pixels that the bytes are, alpha, red, green and blue of each
abbrev pub pixels_of : ℕ → List ℕ → List Argb
pixels_of depth bytes = if depth == 8 then pixels_of_8 bytes else pixels_of_16 bytes

-- not premultiplied
abbrev pub is_bad : ℕ → Argb → Bool
is_bad most p = not (is_colour most p.a p.r p.g p.b)

-- where the first pixel is that is not premultiplied
abbrev pub first_bad : ℕ → List Argb → Option ℕ
first_bad most pixels = position_from (is_bad most) 0 pixels

-- pictures of one size, one after another, each its rows from top to bottom, each from left to right
pub record Pictures : Type 0 where
  pub width : ℕ
  pub height : ℕ
  pub depth : ℕ
  pub frames : ℕ
  pub pixels : List Argb

-- the pictures of these pixels that are declared
abbrev pub pictures_of : ClipUse → List Argb → Pictures
pictures_of declared pixels = record {
  width = declared.width;
  height = declared.height;
  depth = declared.depth;
  frames = declared.frames;
  pixels = pixels;
}

-- a bad pixel by its picture and its place in the picture
abbrev pub bad_pixel : ClipUse → ℕ → ClipError
bad_pixel declared i = BadPixel (i / (declared.width * declared.height)) (i % (declared.width * declared.height))

abbrev pub judged_pixels : ClipUse → List Argb → Option ℕ → Result Pictures ClipError
judged_pixels declared pixels None = Ok (pictures_of declared pixels)
judged_pixels declared pixels (Some i) = Err (bad_pixel declared i)

-- fewer bytes than declared, or an end before the length that was said
abbrev pub is_short : ℕ → ℕ → ℕ → Bool
is_short there count want = nat_lt count want || (nat_lt count there && nat_le count want)

-- how many bytes short ones want: those that are declared, or, where these are all there, those that were said
abbrev pub wanted : ℕ → ℕ → ℕ → ℕ
wanted there have declared = if nat_lt have declared then declared else there

abbrev pub judged_body : ℕ → List ℕ → ClipUse → Option ℕ → Result Pictures ClipError
judged_body there bytes declared (Some field) = Err (BadHeader field)
judged_body there bytes declared None =
    let pixels = pixels_of declared.depth (drop header_length bytes) in
    if is_short there (length bytes) (clip_length declared) then Err (Short (length bytes) (wanted there (length bytes) (clip_length declared)))
    else if nat_lt (clip_length declared) there then Err (Trailing (there - clip_length declared))
    else judged_pixels declared pixels (first_bad (most_of declared.depth) pixels)

-- What a file is of which these bytes were handed out, from the first on, and which is said to have so many bytes: its
-- pictures, or the first of what refuses it.
abbrev pub judged : ℕ → List ℕ → ClipUse → Result Pictures ClipError
judged there bytes declared =
    if nat_lt (length bytes) header_length then Err (Short (length bytes) header_length)
    else if differs 0 (codes "AFR1") bytes then Err BadMagic
    else judged_body there bytes declared (header_fault declared bytes)

-- the same of all bytes of a file
abbrev pub clip_of : List ℕ → ClipUse → Result Pictures ClipError
clip_of bytes declared = judged (length bytes) bytes declared

-- a pixel of a depth in another one
abbrev pub in_depth : ℕ → ℕ → Argb → Argb
in_depth from to p = if from == to then p else depth_of from to p

-- the pixel of a picture at a point, from its left top, in a depth that is given by its greatest value
abbrev pub pixel_in : ℕ → Pictures → ℕ → ℕ → ℕ → Argb
pixel_in most clip picture x y =
    in_depth (most_of clip.depth) most (get_or clip.pixels ((picture * clip.height + y) * clip.width + x) clear)

-- what a clip keeps: bytes of a file that was read, whose pixels are all premultiplied
pub record IsKept (clip : Pictures) (bytes : List ℕ) : Type 0 where
  pub width : clip.width ≤ greatest_side
  pub height : clip.height ≤ greatest_side
  pub frames : clip.frames ≤ most_frames
  pub depth : (clip.depth ≡ 8) ⊎ (clip.depth ≡ 16)
  pub long : length bytes ≡ header_length + clip.frames * (clip.width * clip.height) * pixel_size clip.depth
  pub sound : first_bad (most_of clip.depth) clip.pixels ≡ None
