-- The box blur: the mean of all points that are near.
use Rattle.std.specs.Prelude.{ℕ, ◌+◌, ◌*◌, ℤ, pos, ◌+ℤ◌, ◌-ℤ◌}
use Rattle.geom_rect.specs.declared.rect.Rect.{Rect}
use Rattle.geom_rect.specs.Rect.{grow_of}
use Rattle.argb_pixel.specs.Pixel.{Argb}
use Rattle.comp_stack.specs.Stack.{Plane}
use Rattle.fx_blur.specs.Sums.{sum_over, mean_of}

-- how many points a row of a window has
abbrev pub across : ℕ → ℕ
across radius = 2 * radius + 1

-- the points that are at most the radius away, in x and in y
abbrev pub window_of : ℕ → ℤ → ℤ → Rect
window_of radius x y = record {
  left = x -ℤ pos radius;
  top = y -ℤ pos radius;
  right = x +ℤ pos (radius + 1);
  bottom = y +ℤ pos (radius + 1);
}

-- the mean over the window. All its points count: those outside the input are transparent
abbrev pub blur_at : ℕ → Plane → ℤ → ℤ → Argb
blur_at radius plane x y = mean_of (across radius * across radius) (sum_over plane.at (window_of radius x y))

-- where a blurred picture lies: the radius further on each side, and an empty one as it is
abbrev pub blur_extent : ℕ → Rect → Rect
blur_extent radius extent = grow_of extent (pos radius)
