-- Offset: a picture moved within its extent. What leaves on one side comes in on the other.
use Rattle.std.specs.Prelude.{ℕ, ℤ, pos, ◌+ℤ◌, ◌-ℤ◌, if◌then◌else◌}
use Rattle.std.specs.Int.{int_rem_euclid}
use Rattle.geom_rect.specs.Rect.{has, count_between, width_of}
use Rattle.argb_pixel.specs.Pixel.{Argb, clear}
use Rattle.comp_stack.specs.Stack.{Plane}

-- the one of `count` numbers from `low` on that is a multiple of `count` away from `z`
abbrev pub wrapped : ℤ → ℕ → ℤ → ℤ
wrapped low count z = low +ℤ int_rem_euclid (z -ℤ low) (pos count)

-- inside the extent, the pixel that was moved there by (dx, dy)
abbrev pub offset_at : ℤ → ℤ → Plane → ℤ → ℤ → Argb
offset_at dx dy plane x y =
    if has plane.extent x y
    then plane.at (wrapped plane.extent.left (width_of plane.extent) (x -ℤ dx))
    (wrapped plane.extent.top (count_between plane.extent.top plane.extent.bottom) (y -ℤ dy))
    else clear
