-- The file format AFR1: a header of 29 bytes and the pixels of each frame. All numbers are big endian.
use Rattle.std.specs.Prelude.{ℕ, ◌==◌, ℤ, pos, ◌+ℤ◌, List, [], ◌∷◌, ◌++◌, codes, flat_map, if◌then◌else◌}
use Rattle.std.specs.List.{range_with_len}
use Rattle.std.specs.Int.{w16, w32, to_be_bytes}
use Rattle.frame_file.specs.declared.header.Header.{Header}
use Rattle.argb_world.specs.Picture.{Picture, at}
use Rattle.geom_rect.specs.Rect.{width_of, count_between}
use Rattle.argb_pixel.specs.Pixel.{Argb}

unfoldable pub header_bytes : Header → List ℕ
header_bytes h =
    codes "AFR1" ++ to_be_bytes w32 h.width ++ to_be_bytes w32 h.height ++ h.depth ∷ [] ++ to_be_bytes w32 h.value
    ++ to_be_bytes w32 h.scale ++ to_be_bytes w32 h.first ++ to_be_bytes w32 h.count

-- one byte at depth 8, and two at depth 16
abbrev pub channel_bytes : ℕ → ℕ → List ℕ
channel_bytes depth c = if depth == 8 then c ∷ [] else to_be_bytes w16 c

-- alpha, red, green, blue
abbrev pub pixel_bytes : ℕ → Argb → List ℕ
pixel_bytes depth p = channel_bytes depth p.a ++ channel_bytes depth p.r ++ channel_bytes depth p.g ++ channel_bytes depth p.b

-- a row from left to right
abbrev pub row_bytes : ℕ → ℕ → (ℤ → Argb) → List ℕ
row_bytes depth width at = flat_map (λ x. pixel_bytes depth (at (pos x))) (range_with_len 0 width)

-- a picture of this size: its rows from top to bottom
abbrev pub picture_bytes : ℕ → ℕ → ℕ → (ℤ → ℤ → Argb) → List ℕ
picture_bytes depth width height at = flat_map (λ y. row_bytes depth width (λ x. at x (pos y))) (range_with_len 0 height)

-- the bits of a channel, by its greatest value
abbrev pub depth_of : ℕ → ℕ
depth_of most = if most == 255 then 8 else 16

-- how many bytes a pixel takes
abbrev pub pixel_length : ℕ → ℕ
pixel_length most = if most == 255 then 4 else 8

-- the pixels of the part at the height y, from the left
abbrev pub world_row_bytes : ℕ → Picture → ℤ → List ℕ
world_row_bytes most world y =
    row_bytes (depth_of most) (width_of world.part) (λ x. at world (world.part.left +ℤ x) y)

-- the pixels of the points from the left top of the part on
abbrev pub world_bytes : ℕ → Picture → List ℕ
world_bytes most world =
    picture_bytes (depth_of most) (width_of world.part) (count_between world.part.top world.part.bottom)
    (λ x y. at world (world.part.left +ℤ x) (world.part.top +ℤ y))
