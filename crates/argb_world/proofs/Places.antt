-- Where the pixels of a part stand: within it, and each at a place of its own.
use Rattle.std.proofs.Common.{◌≡◌, ℕ, ◌+◌, ◌*◌, ◌<◌, ◌≤◌, ℤ, pos, negsuc, ◌-ℤ◌, ◌≤ℤ◌, ◌<ℤ◌, Bool, true, false, refl, ap, ◌∙◌, arith}
use Rattle.std.specs.Prelude.{unsigned_abs, int_le, ◌||◌}
use Rattle.std.proofs.lemmas.Int.{ints}
use Rattle.std.proofs.Math.Nat.{mul-le-mul_left}
use Rattle.geom_rect.specs.declared.rect.Rect.{Rect}
use Rattle.geom_rect.specs.Rect.{Has, IsWithin, is_empty, positive_part, count_between, width_of, area_of}
use Rattle.geom_rect.proofs.Points.{room_from_false, outside_from_within}
use Rattle.argb_world.specs.Picture.{HasRow, place_of, greatest_part}

pub positive_part_is : (z : ℤ) → pos 0 ≤ℤ z → pos (positive_part z) ≡ z
positive_part_is (pos n) h = refl
positive_part_is (negsuc n) h = absurd (omega (arith, ints))

pub abs_is_positive_part : (z : ℤ) → pos 0 ≤ℤ z → unsigned_abs z ≡ positive_part z
abs_is_positive_part (pos n) h = refl
abs_is_positive_part (negsuc n) h = absurd (omega (arith, ints))

pub positive_part_pos : (z : ℤ) (n : ℕ) → z ≡ pos n → positive_part z ≡ n
positive_part_pos z n e = ap positive_part e

pub below : (low high x : ℤ) → low ≤ℤ x → x <ℤ high → positive_part (x -ℤ low) < count_between low high
below low high x above under =
    omega (arith, ints, positive_part_is (x -ℤ low) (omega (arith, ints)), positive_part_is (high -ℤ low) (omega (arith, ints)))

pub same_offset : (low x u : ℤ) → low ≤ℤ x → low ≤ℤ u → positive_part (x -ℤ low) ≡ positive_part (u -ℤ low) → x ≡ u
same_offset low x u hx hu e =
    omega (arith, ints, e, positive_part_is (x -ℤ low) (omega (arith, ints)), positive_part_is (u -ℤ low) (omega (arith, ints)))

-- a row and a column of a grid
pub grid_lt : (w h row column : ℕ) → row < h → column < w → row * w + column < w * h
grid_lt w h row column r c = omega (arith, mul-le-mul_left {m = row + 1} {n = h} w (omega arith))

pub grid_le : (w h row column : ℕ) → row < h → column ≤ w → row * w + column ≤ w * h
grid_le w h row column r c = omega (arith, mul-le-mul_left {m = row + 1} {n = h} w (omega arith))

pub place_lt : (part : Rect) (x y : ℤ) → Has part x y → place_of part x y < area_of part
place_lt part x y h =
    grid_lt (width_of part) (count_between part.top part.bottom) _ _ (below part.top part.bottom y h.2 h.3) (below part.left part.right x h.0 h.1)

pub place_le : (part : Rect) (x y : ℤ) → HasRow part y → positive_part (x -ℤ part.left) ≤ width_of part → place_of part x y ≤ area_of part
place_le part x y h c =
    grid_le (width_of part) (count_between part.top part.bottom) _ _ (below part.top part.bottom y h.0 h.1) c

-- what a place is at the numbers that it is computed from
pub place_bound : (part : Rect) (x y : ℤ) (row w column : ℕ) → HasRow part y → positive_part (x -ℤ part.left) ≤ width_of part → area_of part ≤ greatest_part
    → row ≡ positive_part (y -ℤ part.top) → w ≡ width_of part → column ≡ positive_part (x -ℤ part.left) → row * w + column ≤ greatest_part
place_bound part x y row w column h c bound r e k =
    let within = place_le part x y h c in
    let same : row * w + column ≡ place_of part x y = cc in
    omega (arith, within, same)

-- the column of a point is within the row
pub along_within : (part : Rect) (x y : ℤ) → Has part x y → positive_part (x -ℤ part.left) ≤ width_of part
along_within part x y h = omega (arith, below part.left part.right x h.0 h.1)

-- a side that leaves no room
none_between : (low high : ℤ) → high ≤ℤ low → count_between low high ≡ 0
none_between low high h = by (high -ℤ low) refl
  where
    by : (d : ℤ) → high -ℤ low ≡ d → positive_part (high -ℤ low) ≡ 0
    by (pos n) e = let none : n ≡ 0 = omega (arith, ints, e) in ap positive_part e ∙ none
    by (negsuc n) e = ap positive_part e

fewer_between : (low high a b : ℤ) → a ≤ℤ low → low ≤ℤ high → high ≤ℤ b → count_between low high ≤ count_between a b
fewer_between low high a b under room over =
    omega (arith, ints, positive_part_is (high -ℤ low) (omega (arith, ints)), positive_part_is (b -ℤ a) (omega (arith, ints)))

-- a rectangle inside another one has no more points
pub area_within : (inner outer : Rect) → IsWithin inner outer → area_of inner ≤ area_of outer
area_within inner outer within = by (is_empty inner) refl
  where
    by : (b : Bool) → is_empty inner ≡ b → area_of inner ≤ area_of outer
    by false e =
        let room = room_from_false inner e in
        let sides = outside_from_within inner outer room within in
        let across = fewer_between inner.left inner.right outer.left outer.right sides.left (omega (arith, ints, room.across)) sides.right in
        let down = fewer_between inner.top inner.bottom outer.top outer.bottom sides.top (omega (arith, ints, room.down)) sides.bottom in
        omega (arith, mul-le-mul_left (count_between inner.top inner.bottom) across, mul-le-mul_left (count_between outer.left outer.right) down)
    by true e = sides (int_le inner.right inner.left) refl (int_le inner.bottom inner.top) refl e
      where
        sides : (s : Bool) → int_le inner.right inner.left ≡ s → (t : Bool) → int_le inner.bottom inner.top ≡ t → (s || t) ≡ true → area_of inner ≤ area_of outer
        sides true p t q r =
            let none = none_between inner.left inner.right (omega (arith, ints, p)) in
            omega (arith, ap (λ n. n * count_between inner.top inner.bottom) none)
        sides false p true q r =
            let none = none_between inner.top inner.bottom (omega (arith, ints, q)) in
            omega (arith, ap (λ n. count_between inner.left inner.right * n) none)
        sides false p false q r = cc

-- a part with a point at some height has rows
pub rows_there : (part : Rect) (y : ℤ) → HasRow part y → 0 < count_between part.top part.bottom
rows_there part y h = let l = below part.top part.bottom y h.0 h.1 in omega (arith, l)
