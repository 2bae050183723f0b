-- DropShadow: a picture over the shadow that it casts.
use Rattle.std.specs.Prelude.{ℕ, ◌*◌, ℤ, neg_ℤ, ◌-ℤ◌}
use Rattle.geom_rect.specs.declared.rect.Rect.{Rect}
use Rattle.geom_rect.specs.Rect.{cover_of, shift_of}
use Rattle.argb_pixel.specs.Pixel.{Argb, rounded}
use Rattle.transfer_mode.specs.declared.mode.Mode.TheVariants.{Normal}
use Rattle.transfer_mode.specs.Transfer.{blend_of}
use Rattle.comp_stack.specs.Stack.{Plane}

-- one colour, with so much of alpha; all in 1/10000
abbrev pub tinted : ℕ → ℕ → ℕ → ℕ → Argb
tinted red green blue a =
    record { a = a; r = rounded (a * red) 10000; g = rounded (a * green) 10000; b = rounded (a * blue) 10000 }

-- what a pixel casts
abbrev pub shadow_of : (opacity red green blue : ℕ) → Argb → Argb
shadow_of opacity red green blue q = tinted red green blue (rounded (q.a * opacity) 10000)

-- the pixel over what the one at (-dx, -dy) from it casts
abbrev pub shadowed_at : ℕ → ℤ → ℤ → (Argb → Argb) → Plane → ℤ → ℤ → Argb
shadowed_at most dx dy cast plane x y = blend_of most Normal (plane.at x y) (cast (plane.at (x -ℤ dx) (y -ℤ dy)))

-- the picture and its shadow
abbrev pub shadow_bounds : ℤ → ℤ → Rect → Rect
shadow_bounds dx dy extent = cover_of extent (shift_of extent dx dy)

-- the rectangle, and what casts a shadow there
abbrev pub shadow_need : ℤ → ℤ → Rect → Rect
shadow_need dx dy rect = cover_of rect (shift_of rect (neg_ℤ dx) (neg_ℤ dy))
