-- The mosaic: the mean of each block.
use Rattle.std.specs.Prelude.{ℕ, ◌*◌, ◌/◌, ℤ, pos, ◌+ℤ◌, ◌-ℤ◌, if◌then◌else◌}
use Rattle.std.specs.Int.{int_min}
use Rattle.geom_rect.specs.declared.rect.Rect.{Rect}
use Rattle.geom_rect.specs.Rect.{has, is_empty, positive_part, area_of, meet_of, hull_of, origin}
use Rattle.argb_pixel.specs.Pixel.{Argb, clear}
use Rattle.comp_stack.specs.Stack.{Plane}
use Rattle.fx_blur.specs.Sums.{sum_over, mean_of}

-- where the block begins that has x, if blocks of a size begin at the low side
abbrev pub block_start : ℕ → ℤ → ℤ → ℤ
block_start size low x = low +ℤ pos (positive_part (x -ℤ low) / size * size)

-- where it ends: it is cut at the high side
abbrev pub block_end : ℕ → ℤ → ℤ → ℤ → ℤ
block_end size low high x = int_min (block_start size low x +ℤ pos size) high

-- the block of a point of the extent. Blocks begin at the extent's left top
abbrev pub block_of : ℕ → Rect → ℤ → ℤ → Rect
block_of size extent x y = record {
  left = block_start size extent.left x;
  top = block_start size extent.top y;
  right = block_end size extent.left extent.right x;
  bottom = block_end size extent.top extent.bottom y;
}

-- the mean over the point's block, and nothing outside the extent
abbrev pub mosaic_at : ℕ → Plane → ℤ → ℤ → Argb
mosaic_at size plane x y =
    if has plane.extent x y
    then mean_of (area_of (block_of size plane.extent x y)) (sum_over plane.at (block_of size plane.extent x y))
    else clear

-- from the block of the near corner to that of the far one
abbrev pub blocks_between : ℕ → Rect → Rect → Rect
blocks_between size extent met =
    hull_of (block_of size extent met.left met.top) (block_of size extent (met.right -ℤ pos 1) (met.bottom -ℤ pos 1))

-- the cover of the blocks that meet a rectangle, and the empty rectangle at the origin where none does
abbrev pub blocks_of : ℕ → Rect → Rect → Rect
blocks_of size extent rect =
    if is_empty (meet_of rect extent) then origin else blocks_between size extent (meet_of rect extent)
