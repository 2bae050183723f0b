-- Displace: each point shows a point nearby, as red and green of a map say.
use Rattle.std.specs.Prelude.{ℕ, ◌*◌, max, unsigned_abs, ℤ, pos, ◌+ℤ◌, ◌-ℤ◌, ◌*ℤ◌, if◌then◌else◌}
use Rattle.geom_rect.specs.declared.rect.Rect.{Rect}
use Rattle.geom_rect.specs.Rect.{has, grow_of}
use Rattle.rational_time.specs.Times.{floor_of}
use Rattle.argb_pixel.specs.Pixel.{Argb, clear}
use Rattle.comp_stack.specs.Stack.{Plane}

-- how far: `furthest` where the colour is all of an opaque pixel, as far the other way where there is none of it, and not at all
-- where it is half of alpha; rounded down
abbrev pub moved : ℕ → ℤ → ℕ → ℕ → ℤ
moved most furthest colour alpha = floor_of (furthest *ℤ (pos (2 * colour) -ℤ pos alpha)) (pos most)

-- inside the input's extent, the input's pixel that far away
abbrev pub displaced_at : ℕ → ℤ → ℤ → Plane → Plane → ℤ → ℤ → Argb
displaced_at most max_x max_y input map x y =
    if has input.extent x y
    then input.at (x +ℤ moved most max_x (map.at x y).r (map.at x y).a) (y +ℤ moved most max_y (map.at x y).g (map.at x y).a)
    else clear

-- the greater of both distances
abbrev pub reach_of : ℤ → ℤ → ℕ
reach_of max_x max_y = max (unsigned_abs max_x) (unsigned_abs max_y)

abbrev pub displace_need : ℤ → ℤ → Rect → Rect
displace_need max_x max_y rect = grow_of rect (pos (reach_of max_x max_y))
