-- The stock effects, as far as the generator has to know them: by the number of the kind, the range of each parameter, how many layers
-- it is given, and how many bytes an entry of its sequence data has.
use Rattle.std.specs.Prelude.{ℕ, ◌==◌, ◌&&◌, Bool, List, [], ◌∷◌, ℤ, pos, neg_ℤ, int_le, slice_index_or, if◌then◌else◌}
use Rattle.scene_gen.specs.declared.kinds.ValueRange.{ValueRange}

abbrev pub range : ℤ → ℤ → ValueRange
range least most = record { least = least; most = most }

-- from nothing to all, in 1/10000
abbrev pub share : ValueRange
share = range (pos 0) (pos 10000)

-- one of red, green, blue, alpha and nothing
abbrev pub source : ValueRange
source = range (pos 0) (pos 4)

-- a way across any picture, in pixels
abbrev pub place : ValueRange
place = range (neg_ℤ (pos 32768)) (pos 32767)

-- how far a shadow falls or a displacement reaches, in pixels
abbrev pub way : ValueRange
way = range (neg_ℤ (pos 1024)) (pos 1024)

-- Invert, Threshold, ChannelShift, ScaleOffset, Tint, PaletteMap; Offset, BoxBlur, Mosaic, DropShadow, Displace; Echo, PosterizeTime,
-- FrameDifference, TimeMean; AutoLevels, Equalize, Deflicker
abbrev pub kinds : List (List ValueRange)
kinds =
    (range (pos 0) (pos 3) ∷ [])
    ∷ (share ∷ [])
    ∷ (source ∷ source ∷ source ∷ [])
    ∷ (range (pos 0) (pos 40000) ∷ range (neg_ℤ (pos 10000)) (pos 10000) ∷ [])
    ∷ (share ∷ share ∷ share ∷ share ∷ share ∷ share ∷ share ∷ [])
    ∷ []
    ∷ (place ∷ place ∷ [])
    ∷ (range (pos 0) (pos 128) ∷ [])
    ∷ (range (pos 1) (pos 1024) ∷ [])
    ∷ (way ∷ way ∷ share ∷ share ∷ share ∷ share ∷ [])
    ∷ (way ∷ way ∷ [])
    ∷ (range (pos 1) (pos 8) ∷ range (pos 1) (pos 100) ∷ share ∷ [])
    ∷ (range (pos 1) (pos 1000) ∷ [])
    ∷ (range (pos 1) (pos 100) ∷ [])
    ∷ (range (pos 0) (pos 4) ∷ [])
    ∷ (range (pos 0) (pos 4999) ∷ [])
    ∷ []
    ∷ (range (pos 0) (pos 4) ∷ [])
    ∷ []

-- the range of each parameter of a kind, in order
unfoldable pub ranges_of : ℕ → List ValueRange
ranges_of kind = slice_index_or kinds kind []

-- Displace alone is given a layer
unfoldable pub layers_of : ℕ → ℕ
layers_of kind = if kind == 10 then 1 else 0

-- PaletteMap alone has sequence data, entries of three bytes
unfoldable pub unit_of : ℕ → ℕ
unit_of kind = if kind == 5 then 3 else 0

-- the numbers are in order, and small
abbrev pub is_range : ValueRange → Bool
is_range range =
    int_le (neg_ℤ (pos 1048576)) range.least && int_le range.least range.most && int_le range.most (pos 1048576)
