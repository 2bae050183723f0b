-- The bounds of a project's parts, and the numbers that they may be.
use Rattle.std.specs.Prelude.{ℕ, ◌*◌, ◌==◌, ◌&&◌, ◌||◌, nat_le, Bool, List, ℤ, int_le, Option, Some, None, if◌then◌else◌}
use Rattle.std.specs.List.{list_all}
use Rattle.rational_time.specs.declared.time.Time.{Time}
use Rattle.rational_time.specs.declared.time.TheConstants.{GREATEST_BASE}
use Rattle.param_stream.specs.declared.key.Keyframe.{Keyframe}
use Rattle.project_model.specs.declared.bounds.TheConstants.{MOST_CLIPS, MOST_CLIP_BYTES, MOST_NAME_BYTES, CLIP_HEADER_LENGTH, GREATEST_RANK, MOST_COMPS, MOST_LAYERS, MOST_LAYERS_IN_ALL, MOST_EFFECTS, MOST_KEYS, GREATEST_SIDE, GREATEST_AREA, MOST_FRAMES, GREATEST_OF_8_BITS, GREATEST_OF_16_BITS, FULL_OPACITY, LEAST_POSITION, GREATEST_POSITION}

abbrev pub is_bit_depth : ℕ → Bool
is_bit_depth depth = (depth == 8) || (depth == 16)

-- the greatest value of a channel
abbrev pub most_of : ℕ → ℕ
most_of depth = if depth == 8 then GREATEST_OF_8_BITS else GREATEST_OF_16_BITS

abbrev pub most_clips : ℕ
most_clips = MOST_CLIPS

-- the most bytes that the clips declare together
abbrev pub most_clip_bytes : ℕ
most_clip_bytes = MOST_CLIP_BYTES

abbrev pub most_name_bytes : ℕ
most_name_bytes = MOST_NAME_BYTES

-- how many bytes the header of a clip's file has
abbrev pub header_length : ℕ
header_length = CLIP_HEADER_LENGTH

abbrev pub greatest_rank : ℕ
greatest_rank = GREATEST_RANK

abbrev pub most_comps : ℕ
most_comps = MOST_COMPS

abbrev pub most_layers : ℕ
most_layers = MOST_LAYERS

abbrev pub most_layers_in_all : ℕ
most_layers_in_all = MOST_LAYERS_IN_ALL

-- the most effects of a layer
abbrev pub most_effects : ℕ
most_effects = MOST_EFFECTS

abbrev pub most_keys : ℕ
most_keys = MOST_KEYS

abbrev pub greatest_side : ℕ
greatest_side = GREATEST_SIDE

abbrev pub greatest_area : ℕ
greatest_area = GREATEST_AREA

abbrev pub most_frames : ℕ
most_frames = MOST_FRAMES

abbrev pub greatest_base : ℕ
greatest_base = GREATEST_BASE

-- opacity counts in 1/10000
abbrev pub full_opacity : ℤ
full_opacity = FULL_OPACITY

abbrev pub least_position : ℤ
least_position = LEAST_POSITION

abbrev pub greatest_position : ℤ
greatest_position = GREATEST_POSITION

abbrev pub is_among : ℕ → ℕ → ℕ → Bool
is_among low high n = nat_le low n && nat_le n high

-- the sides that a picture may have
abbrev pub is_size : ℕ → ℕ → Bool
is_size width height =
    is_among 1 greatest_side width && is_among 1 greatest_side height && nat_le (width * height) greatest_area

-- a premultiplied colour
abbrev pub is_colour : ℕ → ℕ → ℕ → ℕ → ℕ → Bool
is_colour most a r g b = nat_le a most && nat_le r a && nat_le g a && nat_le b a

abbrev pub is_between : ℤ → ℤ → ℤ → Bool
is_between least most value = int_le least value && int_le value most

-- each value of the stream is from the least to the most
abbrev pub all_between : ℤ → ℤ → List Keyframe → Bool
all_between least most keys = list_all (λ key. is_between least most key.value) keys

-- 1 where there is no time
abbrev pub scale_of : Option Time → ℕ
scale_of None = 1
scale_of (Some time) = time.scale
