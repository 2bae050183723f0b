-- What a picture shows: at one point, along a row, and after a write.
use Rattle.std.proofs.Common.{◌≡◌, ℕ, ◌<◌, ℤ, pos, negsuc, ◌-ℤ◌, ◌+ℤ◌, ◌≤ℤ◌, ◌<ℤ◌, Bool, true, false, List, All, length, get_or, set, replicate, refl, ap, sym, subst, ◌∙◌, arith, if◌then◌else◌}
use Rattle.std.specs.Bool.{IsTrue}
use Rattle.std.specs.Prelude.{Option, Some, None, IfSome}
use Rattle.std.proofs.lemmas.Int.{ints}
use Rattle.std.proofs.lemmas.Nat.{same_from_place}
use Rattle.std.proofs.lemmas.List.{get_or-replicate, get_or-set_same, get_or-set_other, get_or_read}
use Rattle.geom_rect.specs.declared.rect.Rect.{Rect}
use Rattle.geom_rect.specs.Rect.{Has, positive_part, count_between, area_of, has, width_of}
use Rattle.argb_pixel.specs.Pixel.{Argb, clear, IsPremultiplied}
use Rattle.argb_world.specs.Picture.{Picture, at, place_of, StaysBeside}
use Rattle.argb_world.proofs.Places.{below, same_offset, place_lt}
use Rattle.geom_rect.proofs.Points.{has-true, Has-from_true}

abbrev pub picture : Rect → Rect → List Argb → Picture
picture extent part xs = record { extent = extent; part = part; pixels = xs }

-- inside the part the pixel at its place, outside nothing
pub at_inside : (e part : Rect) (xs : List Argb) (x y : ℤ) → Has part x y → at (picture e part xs) x y ≡ get_or xs (place_of part x y) clear
at_inside e part xs x y h = ap (λ (t : Bool). if t then get_or xs (place_of part x y) clear else clear) (has-true part x y h)

pub at_outside : (e part : Rect) (xs : List Argb) (x y : ℤ) → has part x y ≡ false → at (picture e part xs) x y ≡ clear
at_outside e part xs x y h = ap (λ (t : Bool). if t then get_or xs (place_of part x y) clear else clear) h

-- a point that is not in the part
pub at_beyond : (e part : Rect) (xs : List Argb) (x y : ℤ) → ¬ Has part x y → at (picture e part xs) x y ≡ clear
at_beyond e part xs x y outside = by (has part x y) refl
  where
    by : (t : Bool) → has part x y ≡ t → at (picture e part xs) x y ≡ clear
    by true is = absurd (outside (Has-from_true part x y is))
    by false is = at_outside e part xs x y is

-- what is read at the place of a point
pub at_read : (e part : Rect) (xs : List Argb) (x y : ℤ) (i : ℕ) (p : Argb) → Has part x y → length xs ≡ area_of part → i ≡ place_of part x y → p ≡ get_or xs i p
    → p ≡ at (picture e part xs) x y
at_read e part xs x y i p h filled is read =
    get_or_read xs i p (let low = place_lt part x y h in omega arith) read clear ∙ ap (λ (j : ℕ). get_or xs j clear) is ∙ sym (at_inside e part xs x y h)

-- a test that fails at a point outside
pub has-false : (t : Bool) (part : Rect) (x y : ℤ) → (Has part x y → IsTrue t) → t ≡ false → has part x y ≡ false
has-false t part x y tells fails = by (has part x y) refl
  where
    by : (b : Bool) → has part x y ≡ b → has part x y ≡ false
    by true is = absurd (let yes : t ≡ true = tells (Has-from_true part x y is) in cc)
    by false is = is

-- two lists show the same at a point where they have the same pixel at its place
pub at_same : (e part : Rect) (xs ys : List Argb) (x y : ℤ) → (Has part x y → get_or ys (place_of part x y) clear ≡ get_or xs (place_of part x y) clear)
    → at (picture e part ys) x y ≡ at (picture e part xs) x y
at_same e part xs ys x y same = by (has part x y) refl
  where
    by : (t : Bool) → has part x y ≡ t → at (picture e part ys) x y ≡ at (picture e part xs) x y
    by true is = let h = Has-from_true part x y is in at_inside e part ys x y h ∙ same h ∙ sym (at_inside e part xs x y h)
    by false is = at_outside e part ys x y is ∙ sym (at_outside e part xs x y is)

-- one colour over the whole part
pub at_alike : (e part : Rect) (xs : List Argb) (colour : Argb) (x y : ℤ) → xs ≡ replicate (area_of part) colour → Has part x y → at (picture e part xs) x y ≡ colour
at_alike e part xs colour x y alike h =
    at_inside e part xs x y h ∙ ap (λ (l : List Argb). get_or l (place_of part x y) clear) alike
    ∙ get_or-replicate (area_of part) (place_of part x y) colour clear (place_lt part x y h)

pub blank_at : (e part : Rect) (xs : List Argb) (x y : ℤ) → xs ≡ replicate (area_of part) clear → at (picture e part xs) x y ≡ clear
blank_at e part xs x y blank = by (has part x y) refl
  where
    by : (t : Bool) → has part x y ≡ t → at (picture e part xs) x y ≡ clear
    by true is = at_alike e part xs clear x y blank (Has-from_true part x y is)
    by false is = at_outside e part xs x y is

pub colour_everywhere : (e part : Rect) (xs : List Argb) (result : Option Argb) → length xs ≡ area_of part → IfSome result (λ colour. xs ≡ replicate (length xs) colour)
    → IfSome result (λ colour. (x y : ℤ) → Has part x y → at (picture e part xs) x y ≡ colour)
colour_everywhere e part xs None filled alike = tt
colour_everywhere e part xs (Some colour) filled alike = λ x y. at_alike e part xs colour x y (alike ∙ ap (λ n. replicate n colour) filled)

-- premultiplied pixels, at each point
clear_premultiplied : (most : ℕ) → IsPremultiplied most clear
clear_premultiplied most = record { alpha = omega arith; red = omega arith; green = omega arith; blue = omega arith }

pub at_premultiplied : (most : ℕ) (e part : Rect) (xs : List Argb) (x y : ℤ) → length xs ≡ area_of part → All (IsPremultiplied most) xs
    → IsPremultiplied most (at (picture e part xs) x y)
at_premultiplied most e part xs x y filled each = by (has part x y) refl
  where
    by : (t : Bool) → has part x y ≡ t → IsPremultiplied most (at (picture e part xs) x y)
    by true is =
        let h = Has-from_true part x y is in
        subst (IsPremultiplied most) (sym (at_inside e part xs x y h))
        (each (place_of part x y) clear (let low = place_lt part x y h in omega (arith, low, filled)))
    by false is = subst (IsPremultiplied most) (sym (at_outside e part xs x y is)) (clear_premultiplied most)

-- two points of the part with one place are one point
pub same_place : (part : Rect) (x y u v : ℤ) → Has part x y → Has part u v → place_of part u v ≡ place_of part x y → (u ≡ x) × (v ≡ y)
same_place part x y u v h k e =
    let same = same_from_place (positive_part (v -ℤ part.top)) (positive_part (u -ℤ part.left)) (positive_part (y -ℤ part.top)) (positive_part (x -ℤ part.left)) (width_of part)
    (below part.left part.right u k.0 k.1) (below part.left part.right x h.0 h.1) e in
    (same_offset part.left u x k.0 h.0 same.1, same_offset part.top v y k.2 h.2 same.0)

pub set_at_point : (e part : Rect) (xs : List Argb) (x y : ℤ) (i : ℕ) (p : Argb) → Has part x y → length xs ≡ area_of part → i ≡ place_of part x y → at (picture e part (set xs i p)) x y ≡ p
set_at_point e part xs x y i p h filled is =
    at_inside e part (set xs i p) x y h ∙ ap (λ (j : ℕ). get_or (set xs i p) j clear) (sym is)
    ∙ get_or-set_same xs i p clear (let low = place_lt part x y h in omega arith)

pub set_beside : (e part : Rect) (xs : List Argb) (x y : ℤ) (i : ℕ) (p : Argb) → Has part x y → i ≡ place_of part x y → StaysBeside x y (picture e part xs) (picture e part (set xs i p))
set_beside e part xs x y i p h is u v other =
    at_same e part xs (set xs i p) u v λ k.
    get_or-set_other xs i (place_of part u v) p clear λ j. other (same_place part x y u v h k (j ∙ is))

-- a row's points
pub column_above : (low : ℤ) (k : ℕ) → low ≤ℤ (low +ℤ pos k)
column_above low k = omega (arith, ints)

pub column_is : (low : ℤ) (k : ℕ) → positive_part ((low +ℤ pos k) -ℤ low) ≡ k
column_is low k = let e : (low +ℤ pos k) -ℤ low ≡ pos k = omega (arith, ints) in ap positive_part e

pub column_below : (low high : ℤ) (k : ℕ) → k < count_between low high → (low +ℤ pos k) <ℤ high
column_below low high k h = by (high -ℤ low) refl
  where
    by : (d : ℤ) → high -ℤ low ≡ d → (low +ℤ pos k) <ℤ high
    by (pos n) e = let many : positive_part (high -ℤ low) ≡ n = ap positive_part e in omega (arith, ints, e, h, many)
    by (negsuc n) e = let none : positive_part (high -ℤ low) ≡ 0 = ap positive_part e in absurd (omega (arith, h, none))
