-- A picture: an extent, a part of it that is kept, and one pixel for each point of the part.
use Rattle.std.specs.Prelude.{◌≡◌, ℕ, ◌+◌, ◌*◌, ◌≤◌, ℤ, pos, neg_ℤ, ◌+ℤ◌, ◌-ℤ◌, ◌≤ℤ◌, ◌<ℤ◌, List, length, map, slice_index_or, if◌then◌else◌}
use Rattle.std.specs.List.{range_with_len}
use Rattle.geom_rect.specs.Rect.{Has, IsWithin, has, positive_part, width_of, area_of}
use Rattle.geom_rect.specs.declared.rect.Rect.{Rect}
use Rattle.argb_pixel.specs.Pixel.{Argb, clear}

pub record Picture : Type 0 where
  pub extent : Rect
  pub part : Rect
  -- the pixels of the part, row by row from the top, each row from the left
  pub pixels : List Argb

-- the most points that a part has
abbrev pub greatest_part : ℕ
greatest_part = 419430400

-- there is a pixel for each point of the part, and the part lies in the extent
pub record IsPicture (p : Picture) : Type 0 where
  pub inside : IsWithin p.part p.extent
  pub bound : area_of p.part ≤ greatest_part
  pub filled : length p.pixels ≡ area_of p.part

-- where a point's pixel stands
abbrev pub place_of : Rect → ℤ → ℤ → ℕ
place_of part x y = positive_part (y -ℤ part.top) * width_of part + positive_part (x -ℤ part.left)

-- the pixel at a point, transparent outside the part
abbrev pub at : Picture → ℤ → ℤ → Argb
at p x y = if has p.part x y then slice_index_or p.pixels (place_of p.part x y) clear else clear

-- so many pixels at the height y from the column x on, transparent outside the part
abbrev pub span_of : Picture → ℤ → ℤ → ℕ → List Argb
span_of p x y n = map (λ k. at p (x +ℤ pos k) y) (range_with_len 0 n)

-- the pixels of the part at the height y, from the left
abbrev pub row_of : Picture → ℤ → List Argb
row_of p y = span_of p p.part.left y (width_of p.part)

-- the part has points at this height
abbrev pub HasRow : Rect → ℤ → Type 0
HasRow part y = (part.top ≤ℤ y) × (y <ℤ part.bottom)

-- so many points from (x, y) to the right are in the part
abbrev pub HasSpan : Rect → ℤ → ℤ → ℕ → Type 0
HasSpan part x y n = HasRow part y × (part.left ≤ℤ x) × ((x +ℤ pos n) ≤ℤ part.right)

-- a column that is not further away than any row of a picture reaches from any other
abbrev pub IsReach : ℤ → Type 0
IsReach x = (neg_ℤ (pos 8589934592) ≤ℤ x) × (x ≤ℤ pos 8589934592)

-- the extent and the part of a picture stay
abbrev pub SameExtentAndPart : Picture → Picture → Type 0
SameExtentAndPart old new = (new.extent ≡ old.extent) × (new.part ≡ old.part)

-- what is there stays at each point but this one
abbrev pub StaysBeside : ℤ → ℤ → Picture → Picture → Type 0
StaysBeside x y old new = (u v : ℤ) → ¬ ((u ≡ x) × (v ≡ y)) → at new u v ≡ at old u v

-- what is there stays at each height but this one
abbrev pub StaysOffRow : ℤ → Picture → Picture → Type 0
StaysOffRow y old new = (u v : ℤ) → ¬ (v ≡ y) → at new u v ≡ at old u v

-- what is there stays at each point but so many from (x, y) to the right
abbrev pub StaysOffSpan : ℤ → ℤ → ℕ → Picture → Picture → Type 0
StaysOffSpan x y n old new = (u v : ℤ) → ¬ ((v ≡ y) × (x ≤ℤ u) × (u <ℤ (x +ℤ pos n))) → at new u v ≡ at old u v

-- both show the same at each point of the rectangle
abbrev pub AgreesOn : Rect → Picture → Picture → Type 0
AgreesOn rect p q = (x y : ℤ) → Has rect x y → at q x y ≡ at p x y
