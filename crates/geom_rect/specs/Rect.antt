-- A rectangle is the set of its points. Right and bottom are exclusive.
use Rattle.std.specs.Prelude.{ℕ, ◌*◌, ℤ, pos, negsuc, neg_ℤ, ◌≤ℤ◌, ◌<ℤ◌, ◌+ℤ◌, ◌-ℤ◌, Bool, ◌||◌, ◌&&◌, int_le, int_lt, if◌then◌else◌}
use Rattle.std.specs.Int.{int_min, int_max}
use Rattle.geom_rect.specs.declared.rect.Rect.{Rect}

-- the point (x, y) is in the rectangle
abbrev pub Has : Rect → ℤ → ℤ → Type 0
Has rect x y = (rect.left ≤ℤ x) × (x <ℤ rect.right) × (rect.top ≤ℤ y) × (y <ℤ rect.bottom)

-- whether the point is in the rectangle
abbrev pub has : Rect → ℤ → ℤ → Bool
has rect x y = int_le rect.left x && int_lt x rect.right && int_le rect.top y && int_lt y rect.bottom

-- the sides leave no room for a point
abbrev pub is_empty : Rect → Bool
is_empty rect = int_le rect.right rect.left || int_le rect.bottom rect.top

-- each point of the first is in the second
abbrev pub IsWithin : Rect → Rect → Type 0
IsWithin inner outer = (x y : ℤ) → Has inner x y → Has outer x y

-- the number, and 0 for a negative one
abbrev pub positive_part : ℤ → ℕ
positive_part (pos n) = n
positive_part (negsuc n) = 0

-- how many whole numbers there are from the first, inclusive, to the second, exclusive
abbrev pub count_between : ℤ → ℤ → ℕ
count_between low high = positive_part (high -ℤ low)

-- how many points a row of it has
abbrev pub width_of : Rect → ℕ
width_of rect = count_between rect.left rect.right

-- the rectangle of this width and height at the origin
abbrev pub frame_rect : ℕ → ℕ → Rect
frame_rect width height = record { left = pos 0; top = pos 0; right = pos width; bottom = pos height }

-- how many points are in it: its width times its height, and 0 for an empty one
abbrev pub area_of : Rect → ℕ
area_of rect = count_between rect.left rect.right * count_between rect.top rect.bottom

-- the greater of the near sides and the lesser of the far ones
abbrev pub meet_of : Rect → Rect → Rect
meet_of a b = record {
  left = int_max a.left b.left;
  top = int_max a.top b.top;
  right = int_min a.right b.right;
  bottom = int_min a.bottom b.bottom;
}

-- the lesser of the near sides and the greater of the far ones
abbrev pub hull_of : Rect → Rect → Rect
hull_of a b = record {
  left = int_min a.left b.left;
  top = int_min a.top b.top;
  right = int_max a.right b.right;
  bottom = int_max a.bottom b.bottom;
}

-- the empty rectangle at the origin
abbrev pub origin : Rect
origin = record { left = pos 0; top = pos 0; right = pos 0; bottom = pos 0 }

-- an empty rectangle counts for nothing
abbrev pub cover_of : Rect → Rect → Rect
cover_of a b =
    if is_empty a then (if is_empty b then origin else b) else (if is_empty b then a else hull_of a b)

-- each side moved
abbrev pub shift_of : Rect → ℤ → ℤ → Rect
shift_of rect dx dy = record {
  left = rect.left +ℤ dx;
  top = rect.top +ℤ dy;
  right = rect.right +ℤ dx;
  bottom = rect.bottom +ℤ dy;
}

-- each side moved out by n, and an empty rectangle as it is
abbrev pub grow_of : Rect → ℤ → Rect
grow_of rect n =
    if is_empty rect
    then rect
    else record {
      left = rect.left -ℤ n;
      top = rect.top -ℤ n;
      right = rect.right +ℤ n;
      bottom = rect.bottom +ℤ n;
    }

-- at most n apart
abbrev pub IsNear : ℤ → ℤ → ℤ → Type 0
IsNear n a b = (a ≤ℤ (b +ℤ n)) × (b ≤ℤ (a +ℤ n))

-- some point of the rectangle is at most n away in x and in y
abbrev pub HasNear : Rect → ℤ → ℤ → ℤ → Type 0
HasNear rect n x y = (u : ℤ) × (v : ℤ) × Has rect u v × IsNear n x u × IsNear n y v

-- the numbers that rectangles may be moved and grown by, and the sides that such ones may have
abbrev pub IsCoordinate : ℤ → Type 0
IsCoordinate z = (neg_ℤ (pos 1000000) ≤ℤ z) × (z ≤ℤ pos 1000000)

-- each side is a coordinate
abbrev pub HasCoordinates : Rect → Type 0
HasCoordinates rect =
    IsCoordinate rect.left × IsCoordinate rect.top × IsCoordinate rect.right × IsCoordinate rect.bottom
