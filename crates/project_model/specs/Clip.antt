-- What a clip's declaration may say, and how long the file is that it declares.
use Rattle.std.specs.Prelude.{◌≡◌, ℕ, ◌+◌, ◌*◌, ◌≤◌, ◌==◌, ◌&&◌, ◌||◌, ◌⊎◌, nat_lt, Bool, true, not, pos, ◌≤ℤ◌, ◌*ℤ◌, int_lt, List, [], ◌∷◌, length, take, bytes_eq, if◌then◌else◌}
use Rattle.std.specs.List.{list_all, list_any, sum_by}
use Rattle.rational_time.specs.declared.time.TheConstants.{MOST_SECONDS}
use Rattle.project_model.specs.Bounds.{header_length, greatest_side, greatest_area, most_frames, most_clip_bytes, most_name_bytes, is_among}
use Rattle.project_model.specs.declared.clip.ClipUse.{ClipUse}

-- a declaration whose numbers are those that a project may have
pub record IsReadable (declared : ClipUse) : Type 0 where
  pub width : (1 ≤ declared.width) × (declared.width ≤ greatest_side)
  pub height : (1 ≤ declared.height) × (declared.height ≤ greatest_side)
  pub area : declared.width * declared.height ≤ greatest_area
  pub depth : (declared.depth ≡ 8) ⊎ (declared.depth ≡ 16)
  pub frames : (1 ≤ declared.frames) × (declared.frames ≤ most_frames)
  pub value : pos 1 ≤ℤ declared.frame.value
  pub scale : 1 ≤ declared.frame.scale

-- how many bytes a pixel has
abbrev pub pixel_size : ℕ → ℕ
pixel_size depth = if depth == 8 then 4 else 8

-- how many pixels the pictures have together
abbrev pub pixel_count : ClipUse → ℕ
pixel_count declared = declared.frames * (declared.width * declared.height)

-- how many bytes the file has
abbrev pub clip_length : ClipUse → ℕ
clip_length declared = header_length + pixel_count declared * pixel_size declared.depth

-- ---- what the rules ask

-- a letter, a digit, `_`, `-` or `.`
abbrev pub is_name_byte : ℕ → Bool
is_name_byte byte =
    is_among 97 122 byte || is_among 65 90 byte || is_among 48 57 byte || (byte == 95) || (byte == 45) || (byte == 46)

-- from 1 to 64 of these, and the first is no `.`
abbrev pub is_clip_name : List ℕ → Bool
is_clip_name name =
    is_among 1 most_name_bytes (length name) && list_all is_name_byte name && not (bytes_eq (take 1 name) (46 ∷ []))

-- no two of the names are the same
abbrev pub are_different : List (List ℕ) → Bool
are_different [] = true
are_different (name ∷ rest) = not (list_any (bytes_eq name) rest) && are_different rest

-- all frames of the clip together last longer than a time may be from zero
abbrev pub is_long_clip : ClipUse → Bool
is_long_clip clip = int_lt (pos (MOST_SECONDS * clip.frame.scale)) (clip.frame.value *ℤ pos clip.frames)

-- the files have too many bytes together
abbrev pub are_large : List ClipUse → Bool
are_large clips = nat_lt most_clip_bytes (sum_by clip_length clips)
