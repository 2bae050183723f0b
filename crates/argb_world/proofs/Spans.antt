-- A row of points: where its pixels stand, what it shows, and what a write of it changes.
use Rattle.std.proofs.Common.{◌≡◌, ℕ, ◌+◌, ◌*◌, ◌-◌, ◌<◌, ◌≤◌, ℤ, pos, ◌-ℤ◌, ◌+ℤ◌, ◌≤ℤ◌, ◌<ℤ◌, List, length, get_or, take, drop, replicate, ◌≢◌, refl, ap, sym, subst, ◌∙◌, arith, ◌⊎◌, inl, inr, ◌↔◌, length-append, length-take, length-drop}
use Rattle.std.specs.List.{between}
use Rattle.std.proofs.lemmas.Int.{ints}
use Rattle.std.proofs.lemmas.Bool.{cases_lt}
use Rattle.std.proofs.lemmas.List.{length-replicate, get_or-replicate, get_or_append_left, get_or-append_right, get_or-take, get_or-drop}
use Rattle.std.proofs.lemmas.List.Edits.{length-between, get_or-between}
use Rattle.std.proofs.lemmas.List.FromFn.{fill_by_all, length-map-range_with_len, get_or-map-range_with_len}
use Rattle.std.proofs.lemmas.Slice.{between-put_mid}
use Rattle.std.proofs.Math.Nat.{mul-le-mul_left}
use borrow.Rule.Slice.PartMut.{put_mid}
use Rattle.geom_rect.specs.declared.rect.Rect.{Rect}
use Rattle.geom_rect.specs.Rect.{Has, positive_part, count_between, width_of, area_of}
use Rattle.argb_pixel.specs.Pixel.{Argb, clear}
use Rattle.argb_world.specs.Picture.{Picture, at, span_of, row_of, HasRow, HasSpan, place_of, SameExtentAndPart, StaysOffRow, StaysOffSpan}
use Rattle.argb_world.specs.Kept.{IsInRow}
use Rattle.argb_world.proofs.Places.{below, same_offset, positive_part_is}
use Rattle.argb_world.proofs.Rows.{picture, at_inside, at_beyond, at_same, column_above, column_below, column_is}

-- ---- where the pixels stand

column_along : (low x : ℤ) (k : ℕ) → low ≤ℤ x → positive_part ((x +ℤ pos k) -ℤ low) ≡ positive_part (x -ℤ low) + k
column_along low x k h =
    omega (arith, ints, positive_part_is (x -ℤ low) (omega (arith, ints)), positive_part_is ((x +ℤ pos k) -ℤ low) (omega (arith, ints)))

pub place_along : (part : Rect) (x y : ℤ) (k : ℕ) → part.left ≤ℤ x → place_of part (x +ℤ pos k) y ≡ place_of part x y + k
place_along part x y k h = omega (arith, column_along part.left x k h)

-- the columns of a row of points
pub columns_within : (part : Rect) (x y : ℤ) (n : ℕ) → HasSpan part x y n → positive_part (x -ℤ part.left) + n ≤ width_of part
columns_within part x y n h =
    omega (arith, ints, h.1, h.2, positive_part_is (x -ℤ part.left) (omega (arith, ints, h.1)), positive_part_is (part.right -ℤ part.left) (omega (arith, ints, h.1, h.2)))

pub span_within : (part : Rect) (x y : ℤ) (n : ℕ) → HasSpan part x y n → place_of part x y + n ≤ area_of part
span_within part x y n h =
    let columns = columns_within part x y n h in
    omega (arith, mul-le-mul_left {m = positive_part (y -ℤ part.top) + 1} {n = count_between part.top part.bottom} (width_of part) (let low = below part.top part.bottom y h.0.0 h.0.1 in omega arith))

pub has_along : (part : Rect) (x y : ℤ) (n k : ℕ) → HasSpan part x y n → k < n → Has part (x +ℤ pos k) y
has_along part x y n k h l = (omega (arith, ints, h.1), omega (arith, ints, h.2, l), h.0.0, h.0.1)

-- the whole row of a part
pub start_is : (part : Rect) (y : ℤ) → place_of part part.left y ≡ positive_part (y -ℤ part.top) * width_of part
start_is part y =
    let e : part.left -ℤ part.left ≡ pos 0 = omega (arith, ints) in
    let z : positive_part (part.left -ℤ part.left) ≡ 0 = ap positive_part e in
    omega (arith, z)

pub row_within : (part : Rect) (y : ℤ) → HasRow part y → place_of part part.left y + width_of part ≤ area_of part
row_within part y h =
    omega (arith, start_is part y, mul-le-mul_left {m = positive_part (y -ℤ part.top) + 1} {n = count_between part.top part.bottom} (width_of part) (let low = below part.top part.bottom y h.0 h.1 in omega arith))

-- it is a row of points, where it has any
pub row_is_span : (part : Rect) (y : ℤ) → part.left ≤ℤ part.right → HasRow part y → HasSpan part part.left y (width_of part)
row_is_span part y room h =
    (h, omega (arith, ints), omega (arith, ints, positive_part_is (part.right -ℤ part.left) (omega (arith, ints))))

has_column : (part : Rect) (y : ℤ) (k : ℕ) → HasRow part y → k < width_of part → Has part (part.left +ℤ pos k) y
has_column part y k h l = (column_above part.left k, column_below part.left part.right k l, h.0, h.1)

-- ---- what it shows

pub span_is_between : (e part : Rect) (xs : List Argb) (x y : ℤ) (s n : ℕ) → HasSpan part x y n → length xs ≡ area_of part → s ≡ place_of part x y
    → between s (s + n) xs ≡ span_of (picture e part xs) x y n
span_is_between e part xs x y s n h filled is =
    let within = span_within part x y n h in
    let long : length (between s (s + n) xs) ≡ n = (let e = length-between xs s (s + n) (omega arith) in omega arith) in
    fill_by_all (λ k. at (picture e part xs) (x +ℤ pos k) y) (between s (s + n) xs) n clear long λ k l.
    let place : s + k ≡ place_of part (x +ℤ pos k) y = omega (arith, place_along part x y k h.1) in
    get_or-between xs s (s + n) k clear (omega arith) ∙ ap (λ (j : ℕ). get_or xs j clear) place
    ∙ sym (at_inside e part xs (x +ℤ pos k) y (has_along part x y n k h l))

pub row_is_between : (e part : Rect) (xs : List Argb) (y : ℤ) (s n : ℕ) → HasRow part y → length xs ≡ area_of part → s ≡ place_of part part.left y → n ≡ width_of part
    → between s (s + n) xs ≡ row_of (picture e part xs) y
row_is_between e part xs y s n h filled is wide =
    let within = row_within part y h in
    let long : length (between s (s + n) xs) ≡ n = (let e = length-between xs s (s + n) (omega arith) in omega arith) in
    fill_by_all (λ k. at (picture e part xs) (part.left +ℤ pos k) y) (between s (s + n) xs) (width_of part) clear (long ∙ wide) λ k l.
    let place : s + k ≡ place_of part (part.left +ℤ pos k) y = omega (arith, place_along part part.left y k (omega (arith, ints))) in
    get_or-between xs s (s + n) k clear (omega arith) ∙ ap (λ (j : ℕ). get_or xs j clear) place
    ∙ sym (at_inside e part xs (part.left +ℤ pos k) y (has_column part y k h l))

pub length_span : (p : Picture) (x y : ℤ) (n : ℕ) → length (span_of p x y n) ≡ n
length_span p x y n = length-map-range_with_len (λ j. at p (x +ℤ pos j) y) 0 n

-- the pixel of a row of points
pub span_at : (p : Picture) (x y : ℤ) (n k : ℕ) → k < n → get_or (span_of p x y n) k clear ≡ at p (x +ℤ pos k) y
span_at p x y n k l = get_or-map-range_with_len (λ j. at p (x +ℤ pos j) y) 0 n k k clear l (omega arith)

-- two rows of points that are equal show the same at each
pub same_span_at : (p q : Picture) (x y u : ℤ) (n : ℕ) → span_of p x y n ≡ span_of q x y n → x ≤ℤ u → u <ℤ (x +ℤ pos n) → at p u y ≡ at q u y
same_span_at p q x y u n same low high =
    let k = positive_part (u -ℤ x) in
    let is : x +ℤ pos k ≡ u = omega (arith, ints, positive_part_is (u -ℤ x) (omega (arith, ints))) in
    let l : k < n = omega (arith, ints, is) in
    ap (λ v. at p v y) (sym is) ∙ sym (span_at p x y n k l) ∙ ap (λ ps. get_or ps k clear) same ∙ span_at q x y n k l ∙ ap (λ v. at q v y) is

-- ---- a written part of a list

pub length_written : (xs ys : List Argb) (s n : ℕ) → s + n ≤ length xs → length ys ≡ n → length (put_mid s n xs ys) ≡ length xs
length_written xs ys s n within long = simp (length-append, length-take, length-drop) (omega arith)

pub written_below : (xs ys : List Argb) (s n k : ℕ) → s + n ≤ length xs → k < s → get_or (put_mid s n xs ys) k clear ≡ get_or xs k clear
written_below xs ys s n k within low =
    let front : length (take s xs) ≡ s = omega (arith, length-take s xs) in
    get_or_append_left (take s xs) _ clear k (omega arith) ∙ get_or-take s xs k clear low

pub written_above : (xs ys : List Argb) (s n k : ℕ) → s + n ≤ length xs → length ys ≡ n → s + n ≤ k → get_or (put_mid s n xs ys) k clear ≡ get_or xs k clear
written_above xs ys s n k within long high =
    let front : length (take s xs) ≡ s = omega (arith, length-take s xs) in
    let place : s + (n + (k - s - n)) ≡ k = omega arith in
    get_or-append_right (take s xs) _ s k clear front (omega arith)
    ∙ get_or-append_right ys _ n (k - s) clear long (omega arith)
    ∙ get_or-drop n (drop s xs) (k - s - n) clear ∙ get_or-drop s xs (n + (k - s - n)) clear
    ∙ ap (λ (j : ℕ). get_or xs j clear) place

pub written_inside : (xs ys : List Argb) (s n k : ℕ) → s + n ≤ length xs → length ys ≡ n → s ≤ k → k < s + n → get_or (put_mid s n xs ys) k clear ≡ get_or ys (k - s) clear
written_inside xs ys s n k within long low high =
    let front : length (take s xs) ≡ s = omega (arith, length-take s xs) in
    get_or-append_right (take s xs) _ s k clear front low
    ∙ get_or_append_left ys _ clear (k - s) (omega arith)

pub written_beside : (xs ys : List Argb) (s n k : ℕ) → s + n ≤ length xs → length ys ≡ n → (k < s) ⊎ (s + n ≤ k) → get_or (put_mid s n xs ys) k clear ≡ get_or xs k clear
written_beside xs ys s n k within long (inl low) = written_below xs ys s n k within low
written_beside xs ys s n k within long (inr high) = written_above xs ys s n k within long high

-- ---- a write of a row of points

pub filled_still : (part : Rect) (xs ys : List Argb) (x y : ℤ) (s : ℕ) → HasSpan part x y (length ys) → length xs ≡ area_of part → s ≡ place_of part x y
    → length (put_mid s (length ys) xs ys) ≡ area_of part
filled_still part xs ys x y s h filled is =
    length_written xs ys s (length ys) (omega (arith, span_within part x y (length ys) h)) refl ∙ filled

pub set_span_is : (e part : Rect) (xs ys : List Argb) (x y : ℤ) (s : ℕ) → HasSpan part x y (length ys) → length xs ≡ area_of part → s ≡ place_of part x y
    → span_of (picture e part (put_mid s (length ys) xs ys)) x y (length ys) ≡ ys
set_span_is e part xs ys x y s h filled is =
    let within = span_within part x y (length ys) h in
    sym (span_is_between e part (put_mid s (length ys) xs ys) x y s (length ys) h (filled_still part xs ys x y s h filled is) is)
    ∙ between-put_mid s (length ys) xs ys (s + length ys) (omega arith) (omega arith)

-- a place of another row is before or after the row
row_apart : (a b w column at n : ℕ) → ¬ (a ≡ b) → column < w → at + n ≤ w → (a * w + column < b * w + at) ⊎ (b * w + at + n ≤ a * w + column)
row_apart a b w column at n apart c l = by (cases_lt a b)
  where
    by : (a < b) ⊎ (b ≤ a) → (a * w + column < b * w + at) ⊎ (b * w + at + n ≤ a * w + column)
    by (inl low) = inl (omega (arith, mul-le-mul_left {m = a + 1} {n = b} w (omega arith)))
    by (inr high) = inr (omega (arith, mul-le-mul_left {m = b + 1} {n = a} w (let ne : a ≢ b = apart in omega arith)))

-- a place of the same row that is not among the columns
column_apart : (part : Rect) (x u y v : ℤ) (n : ℕ) → Has part u v → HasSpan part x y n → v ≡ y → ¬ ((v ≡ y) × (x ≤ℤ u) × (u <ℤ (x +ℤ pos n)))
    → (place_of part u v < place_of part x y) ⊎ (place_of part x y + n ≤ place_of part u v)
column_apart part x u y v n k h e other = by (cases_lt cu cx) (cases_lt cu (cx + n))
  where
    cu : ℕ
    cu = positive_part (u -ℤ part.left)

    cx : ℕ
    cx = positive_part (x -ℤ part.left)

    rows : positive_part (v -ℤ part.top) ≡ positive_part (y -ℤ part.top)
    rows = ap (λ z. positive_part (z -ℤ part.top)) e

    same_rows : positive_part (v -ℤ part.top) * width_of part ≡ positive_part (y -ℤ part.top) * width_of part
    same_rows = ap (λ r. r * width_of part) rows

    by : (cu < cx) ⊎ (cx ≤ cu) → (cu < cx + n) ⊎ (cx + n ≤ cu) → (place_of part u v < place_of part x y) ⊎ (place_of part x y + n ≤ place_of part u v)
    by (inl low) r = inl (omega (arith, same_rows))
    by (inr q) (inr high) = inr (omega (arith, same_rows))
    by (inr q) (inl low) = absurd (other (e, omega (arith, ints, q, positive_part_is (u -ℤ part.left) (omega (arith, ints, k.0)), positive_part_is (x -ℤ part.left) (omega (arith, ints, h.1))), omega (arith, ints, low, positive_part_is (u -ℤ part.left) (omega (arith, ints, k.0)), positive_part_is (x -ℤ part.left) (omega (arith, ints, h.1)))))

span_apart : (part : Rect) (x u y v : ℤ) (n : ℕ) → Has part u v → HasSpan part x y n → ¬ ((v ≡ y) × (x ≤ℤ u) × (u <ℤ (x +ℤ pos n)))
    → (place_of part u v < place_of part x y) ⊎ (place_of part x y + n ≤ place_of part u v)
span_apart part x u y v n k h other = by (cases_lt (positive_part (v -ℤ part.top)) (positive_part (y -ℤ part.top))) (cases_lt (positive_part (y -ℤ part.top)) (positive_part (v -ℤ part.top)))
  where
    column : positive_part (u -ℤ part.left) < width_of part
    column = below part.left part.right u k.0 k.1

    by : (positive_part (v -ℤ part.top) < positive_part (y -ℤ part.top)) ⊎ (positive_part (y -ℤ part.top) ≤ positive_part (v -ℤ part.top))
        → (positive_part (y -ℤ part.top) < positive_part (v -ℤ part.top)) ⊎ (positive_part (v -ℤ part.top) ≤ positive_part (y -ℤ part.top))
        → (place_of part u v < place_of part x y) ⊎ (place_of part x y + n ≤ place_of part u v)
    by (inl low) r = row_apart _ _ (width_of part) _ _ n (λ e. omega (arith, low, e)) column (columns_within part x y n h)
    by (inr q) (inl high) = row_apart _ _ (width_of part) _ _ n (λ e. omega (arith, high, e)) column (columns_within part x y n h)
    by (inr q) (inr r) = column_apart part x u y v n k h (same_offset part.top v y k.2 h.0.0 (omega (arith, q, r))) other

pub set_span_beside : (e part : Rect) (xs ys : List Argb) (x y : ℤ) (s : ℕ) → HasSpan part x y (length ys) → length xs ≡ area_of part → s ≡ place_of part x y
    → StaysOffSpan x y (length ys) (picture e part xs) (picture e part (put_mid s (length ys) xs ys))
set_span_beside e part xs ys x y s h filled is u v other =
    at_same e part xs (put_mid s (length ys) xs ys) u v λ k.
    let within = span_within part x y (length ys) h in
    written_beside xs ys s (length ys) (place_of part u v) (omega arith) refl (rw is (span_apart part x u y v (length ys) k h other))

-- so many pixels
pub span_write : (e part : Rect) (xs ys : List Argb) (x y : ℤ) (s n : ℕ) → length ys ≡ n → HasSpan part x y n → length xs ≡ area_of part → s ≡ place_of part x y
    → (length (put_mid s n xs ys) ≡ area_of part) × (span_of (picture e part (put_mid s n xs ys)) x y n ≡ ys)
    × StaysOffSpan x y n (picture e part xs) (picture e part (put_mid s n xs ys))
span_write e part xs ys x y s n long h filled is =
    subst (λ (m : ℕ). HasSpan part x y m → (length (put_mid s m xs ys) ≡ area_of part) × (span_of (picture e part (put_mid s m xs ys)) x y m ≡ ys)
    × StaysOffSpan x y m (picture e part xs) (picture e part (put_mid s m xs ys))) long
    (λ k. (filled_still part xs ys x y s k filled is, set_span_is e part xs ys x y s k filled is, set_span_beside e part xs ys x y s k filled is)) h

-- ---- a write of a whole row

pub row_filled_still : (part : Rect) (xs ys : List Argb) (y : ℤ) (s n : ℕ) → HasRow part y → length xs ≡ area_of part → s ≡ place_of part part.left y → length ys ≡ n → n ≡ width_of part
    → length (put_mid s n xs ys) ≡ area_of part
row_filled_still part xs ys y s n h filled is long wide = length_written xs ys s n (omega (arith, row_within part y h)) long ∙ filled

pub set_row_is : (e part : Rect) (xs ys : List Argb) (y : ℤ) (s n : ℕ) → HasRow part y → length xs ≡ area_of part → s ≡ place_of part part.left y → length ys ≡ n → n ≡ width_of part
    → row_of (picture e part (put_mid s n xs ys)) y ≡ ys
set_row_is e part xs ys y s n h filled is long wide =
    let within = row_within part y h in
    sym (row_is_between e part (put_mid s n xs ys) y s n h (row_filled_still part xs ys y s n h filled is long wide) is wide)
    ∙ between-put_mid s n xs ys (s + n) (omega arith) (omega arith)

pub set_row_beside : (e part : Rect) (xs ys : List Argb) (y : ℤ) (s n : ℕ) → HasRow part y → length xs ≡ area_of part → s ≡ place_of part part.left y → length ys ≡ n → n ≡ width_of part
    → StaysOffRow y (picture e part xs) (picture e part (put_mid s n xs ys))
set_row_beside e part xs ys y s n h filled is long wide u v other =
    at_same e part xs (put_mid s n xs ys) u v λ k.
    let within = row_within part y h in
    let begins : s ≡ positive_part (y -ℤ part.top) * width_of part + 0 = omega (arith, is, start_is part y) in
    let differ : ¬ (positive_part (v -ℤ part.top) ≡ positive_part (y -ℤ part.top)) = λ j. other (same_offset part.top v y k.2 h.0 j) in
    let beside = row_apart _ _ (width_of part) _ 0 n differ (below part.left part.right u k.0 k.1) (omega arith) in
    written_beside xs ys s n (place_of part u v) (omega arith) long (rw begins beside)

-- what a row of points that was read is made of: nothing, but what is in the part
pub span_parts : (e part : Rect) (xs : List Argb) (x y : ℤ) (count start end from : ℕ) (filled new : List Argb) → length xs ≡ area_of part
    → filled ≡ replicate count clear → start < end → end ≤ count
    → ((k : ℕ) → k < count → (Has part (x +ℤ pos k) y ↔ ((start ≤ k) × (k < end))))
    → from ≡ place_of part (x +ℤ pos start) y → from + (end - start) ≤ length xs
    → new ≡ put_mid start (end - start) filled (between from (from + (end - start)) xs)
    → new ≡ span_of (picture e part xs) x y count
span_parts e part xs x y count start end from filled new all clean order fits inside is there made =
    fill_by_all (λ k. at (picture e part xs) (x +ℤ pos k) y) new count clear long each
  where
    mid : List Argb
    mid = between from (from + (end - start)) xs

    wide : length filled ≡ count
    wide = ap length clean ∙ length-replicate count clear

    mid_long : length mid ≡ end - start
    mid_long = let e = length-between xs from (from + (end - start)) there in omega arith

    long : length new ≡ count
    long = ap length made ∙ length_written filled mid start (end - start) (omega (arith, wide)) mid_long ∙ wide

    each : (k : ℕ) → k < count → get_or new k clear ≡ at (picture e part xs) (x +ℤ pos k) y
    each k l = ap (λ ps. get_or ps k clear) made ∙ by (cases_lt k start) (cases_lt k end)
      where
        nothing : ¬ ((start ≤ k) × (k < end)) → get_or filled k clear ≡ at (picture e part xs) (x +ℤ pos k) y
        nothing out =
            ap (λ ps. get_or ps k clear) clean ∙ get_or-replicate count k clear clear l
            ∙ sym (at_beyond e part xs (x +ℤ pos k) y (λ h. out ((inside k l).0 h)))

        by : (k < start) ⊎ (start ≤ k) → (k < end) ⊎ (end ≤ k) → get_or (put_mid start (end - start) filled mid) k clear ≡ at (picture e part xs) (x +ℤ pos k) y
        by (inl low) r = written_below filled mid start (end - start) k (omega (arith, wide)) low ∙ nothing (λ i. omega (arith, low, i.0))
        by (inr q) (inr high) = written_above filled mid start (end - start) k (omega (arith, wide)) mid_long (omega arith) ∙ nothing (λ i. omega (arith, high, i.1))
        by (inr q) (inl r) =
            let left = (inside start (omega arith)).1 (omega arith, order) in
            let steps : x +ℤ pos k ≡ (x +ℤ pos start) +ℤ pos (k - start) = omega (arith, ints, q) in
            let place : from + (k - start) ≡ place_of part (x +ℤ pos k) y =
            omega (arith, place_along part (x +ℤ pos start) y (k - start) left.0, ap (λ z. place_of part z y) steps) in
            written_inside filled mid start (end - start) k (omega (arith, wide)) mid_long q (omega arith)
            ∙ get_or-between xs from (from + (end - start)) (k - start) clear (omega arith)
            ∙ ap (λ (j : ℕ). get_or xs j clear) place ∙ sym (at_inside e part xs (x +ℤ pos k) y ((inside k l).1 (q, r)))

-- and where nothing of it is in the part
pub span_beyond : (e part : Rect) (xs : List Argb) (x y : ℤ) (count start end : ℕ) (filled : List Argb) → filled ≡ replicate count clear → end ≤ start
    → ((k : ℕ) → k < count → (Has part (x +ℤ pos k) y ↔ ((start ≤ k) × (k < end)))) → filled ≡ span_of (picture e part xs) x y count
span_beyond e part xs x y count start end filled clean none inside =
    fill_by_all (λ k. at (picture e part xs) (x +ℤ pos k) y) filled count clear (ap length clean ∙ length-replicate count clear) λ k l.
    ap (λ ps. get_or ps k clear) clean ∙ get_or-replicate count k clear clear l
    ∙ sym (at_beyond e part xs (x +ℤ pos k) y (λ h. let i = (inside k l).0 h in omega (arith, i.0, i.1, none)))

-- the pixels of a row that is inside stand one after another
pub middle_within : (part : Rect) (x y : ℤ) (count start end : ℕ) → start < end → end ≤ count
    → ((k : ℕ) → k < count → (Has part (x +ℤ pos k) y ↔ ((start ≤ k) × (k < end)))) → place_of part (x +ℤ pos start) y + (end - start) ≤ area_of part
middle_within part x y count start end order fits inside =
    let first = (inside start (omega arith)).1 (omega arith, order) in
    let last = (inside (end - 1) (omega arith)).1 (omega arith, omega arith) in
    span_within part (x +ℤ pos start) y (end - start) ((first.2, first.3), first.0, omega (arith, ints, last.1, order))

pub middle_span : (part : Rect) (x y : ℤ) (count start end : ℕ) → start < end → end ≤ count
    → ((k : ℕ) → k < count → (Has part (x +ℤ pos k) y ↔ ((start ≤ k) × (k < end)))) → HasSpan part (x +ℤ pos start) y (end - start)
middle_span part x y count start end order fits inside =
    let first = (inside start (omega arith)).1 (omega arith, order) in
    let last = (inside (end - 1) (omega arith)).1 (omega arith, omega arith) in
    ((first.2, first.3), first.0, omega (arith, ints, last.1, order))

-- ---- pixels of one row of those that are kept

pub whole_in_row : (part : Rect) (y : ℤ) (width start n : ℕ) → ((v : ℤ) → HasRow part v → width ≡ width_of part) → HasRow part y → start ≡ place_of part part.left y → n ≡ width_of part
    → IsInRow width start n
whole_in_row part y width start n wide h is all =
    let same = wide y h in
    let begins = is ∙ start_is part y ∙ ap (λ w. positive_part (y -ℤ part.top) * w) (sym same) in
    record { row = positive_part (y -ℤ part.top); above = omega (arith, begins); below = omega (arith, begins, all, same) }

pub span_in_row : (part : Rect) (x y : ℤ) (width start n : ℕ) → ((v : ℤ) → HasRow part v → width ≡ width_of part) → HasSpan part x y n → start ≡ place_of part x y → IsInRow width start n
span_in_row part x y width start n wide h is =
    let same = wide y h.0 in
    let columns = columns_within part x y n h in
    let rows = ap (λ w. positive_part (y -ℤ part.top) * w) same in
    record { row = positive_part (y -ℤ part.top); above = omega (arith, is, rows); below = omega (arith, is, rows, columns, same) }

-- a row of points that is inside as a whole
pub lent_is : (e part : Rect) (xs : List Argb) (x y : ℤ) (count start end from : ℕ) → length xs ≡ area_of part → start ≡ 0 → end ≡ count → start < end
    → ((k : ℕ) → k < count → (Has part (x +ℤ pos k) y ↔ ((start ≤ k) × (k < end))))
    → from ≡ place_of part (x +ℤ pos start) y → between from (from + count) xs ≡ span_of (picture e part xs) x y count
lent_is e part xs x y count start end from all low high order inside is =
    let first = (inside start (omega arith)).1 (omega arith, order) in
    let last = (inside (end - 1) (omega arith)).1 (omega arith, omega arith) in
    let here : x +ℤ pos start ≡ x = omega (arith, ints, low) in
    span_is_between e part xs x y from count ((first.2, first.3), omega (arith, ints, here, first.0), omega (arith, ints, last.1, high, order)) all
    (is ∙ ap (λ u. place_of part u y) here)

-- ---- the rows of a part, by their number from the top

pub row_there : (part : Rect) (k : ℕ) → k < count_between part.top part.bottom → HasRow part (part.top +ℤ pos k)
row_there part k l = (column_above part.top k, column_below part.top part.bottom k l)

pub row_starts : (part : Rect) (k : ℕ) → place_of part part.left (part.top +ℤ pos k) ≡ k * width_of part
row_starts part k = start_is part (part.top +ℤ pos k) ∙ ap (λ r. r * width_of part) (column_is part.top k)

-- one more row is copied
pub copied_more : (p q from : Picture) (k : ℕ) → SameExtentAndPart p q → row_of q (p.part.top +ℤ pos k) ≡ span_of from p.part.left (p.part.top +ℤ pos k) (width_of p.part)
    → StaysOffRow (p.part.top +ℤ pos k) p q → ((u v : ℤ) → Has p.part u v → v <ℤ (p.part.top +ℤ pos k) → at p u v ≡ at from u v)
    → (u v : ℤ) → Has p.part u v → v <ℤ (p.part.top +ℤ pos (k + 1)) → at q u v ≡ at from u v
copied_more p q from k frame row stays copied u v h l = by (cases_lt (positive_part (v -ℤ p.part.top)) k)
  where
    rows : pos (positive_part (v -ℤ p.part.top)) ≡ v -ℤ p.part.top
    rows = positive_part_is (v -ℤ p.part.top) (omega (arith, ints, h.2))

    columns : pos (width_of p.part) ≡ p.part.right -ℤ p.part.left
    columns = positive_part_is (p.part.right -ℤ p.part.left) (omega (arith, ints, h.0, h.1))

    same : span_of q p.part.left (p.part.top +ℤ pos k) (width_of p.part) ≡ span_of from p.part.left (p.part.top +ℤ pos k) (width_of p.part)
    same = ap (λ (part : Rect). span_of q part.left (p.part.top +ℤ pos k) (width_of part)) (sym frame.1) ∙ row

    by : (positive_part (v -ℤ p.part.top) < k) ⊎ (k ≤ positive_part (v -ℤ p.part.top)) → at q u v ≡ at from u v
    by (inl low) =
        let above : v <ℤ (p.part.top +ℤ pos k) = omega (arith, ints, rows, low) in
        stays u v (λ e. omega (arith, ints, e, above)) ∙ copied u v h above
    by (inr high) =
        let is : v ≡ p.part.top +ℤ pos k = omega (arith, ints, rows, high, l) in
        ap (at q u) is ∙ same_span_at q from p.part.left (p.part.top +ℤ pos k) u (width_of p.part) same h.0 (omega (arith, ints, columns, h.1)) ∙ ap (at from u) (sym is)

-- with the last row all are
pub above_end : (part : Rect) (x y : ℤ) (k : ℕ) → Has part x y → count_between part.top part.bottom ≤ k → y <ℤ (part.top +ℤ pos k)
above_end part x y k h all =
    let rows = positive_part_is (part.bottom -ℤ part.top) (omega (arith, ints, h.2, h.3)) in
    omega (arith, ints, rows, all, h.3)
