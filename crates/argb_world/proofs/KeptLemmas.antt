-- Pixels of which the upper rows are written out.
use Rattle.std.proofs.Common.{◌≡◌, ℕ, zero, suc, ◌+◌, ◌*◌, ◌-◌, ◌<◌, ◌≤◌, List, [], ◌++◌, All, Vec, vec_len, vec_capacity, length, take, drop, get_or, replicate, ◌⊎◌, inl, inr, refl, ap, ap₂, sym, subst, ◌∙◌, arith, length-append, length-drop}
use Rattle.std.specs.List.{between}
use Rattle.std.proofs.lemmas.Bool.{cases_lt}
use Rattle.std.proofs.lemmas.List.{length-replicate, get_or-replicate, get_or_append_left, get_or-append_right, append-nil, take-append-le, drop-append-le, append_assoc, replicate-append-replicate, nil_from_length, ext_get_or, take-replicate}
use Rattle.std.proofs.lemmas.List.Elements.{All-nil, All-append, All-replicate}
use Rattle.std.specs.Vec.{with_items}
use Rattle.std.proofs.lemmas.List.{with_items_is}
use Rattle.std.proofs.lemmas.List.Edits.{length-between, get_or-between}
use Rattle.std.proofs.lemmas.Slice.{between_is}
use Rattle.std.proofs.Math.Nat.{mul-le-mul_left}
use borrow.Rule.Slice.PartMut.{put_mid}
use Rattle.argb_pixel.specs.Depth.{IsDepth}
use Rattle.argb_pixel.specs.Pixel.{Argb, IsPremultiplied, clear}
use Rattle.argb_pixel.specs.Packed.{pixel_size, pixels_of, IsPacked}
use Rattle.argb_world.specs.Kept.{Rows, kept, IsKept, IsInRow}
use Rattle.argb_pixel.proofs.Parts.{pixels_append, pixels_length, pixels_none, few_whole, append_packed, packed_made, size_is}

-- whole rows are no more than all
rows_le : (rows height width : ℕ) → rows ≤ height → rows * width ≤ height * width
rows_le rows height width le = omega (arith, mul-le-mul_left {m = rows} {n = height} width le)

rows_lt : (rows height width : ℕ) → rows * width < height * width → rows < height
rows_lt rows height width l = by (cases_lt rows height)
  where
    by : (rows < height) ⊎ (height ≤ rows) → rows < height
    by (inl low) = low
    by (inr high) = absurd (omega (arith, rows_le height rows width high))

wide_is : (rows height width : ℕ) → rows * width < height * width → 0 < width
wide_is rows height zero l = absurd (omega (arith, l))
wide_is rows height (suc n) l = omega arith

pub front_le : (most : ℕ) (w row : List ℕ) (capacity count width : ℕ) (colour : Argb) → IsKept most w capacity count width row colour → length (pixels_of most w) ≤ count
front_le most w row capacity count width colour k = omega (arith, rows_le k.rows k.height width k.few, k.whole, k.all)

pub kept_length : (most : ℕ) (w row : List ℕ) (capacity count width : ℕ) (colour : Argb) → IsKept most w capacity count width row colour → length (kept most w count colour) ≡ count
unfolding kept
kept_length most w row capacity count width colour k =
    length-append (pixels_of most w) (replicate (count - length (pixels_of most w)) colour)
    ∙ ap (λ n. length (pixels_of most w) + n) (length-replicate (count - length (pixels_of most w)) colour)
    ∙ omega (arith, front_le most w row capacity count width colour k)

pub kept_premultiplied : (most : ℕ) (w : List ℕ) (count : ℕ) (colour : Argb) → IsPacked most w → IsPremultiplied most colour → All (IsPremultiplied most) (kept most w count colour)
unfolding kept
kept_premultiplied most w count colour is fits =
    All-append (IsPremultiplied most) (pixels_of most w) (replicate (count - length (pixels_of most w)) colour) is.premultiplied
    (All-replicate (IsPremultiplied most) (count - length (pixels_of most w)) colour fits)

pub kept_none : (most : ℕ) (w : List ℕ) (count : ℕ) (colour : Argb) → IsDepth most → length w ≡ 0 → kept most w count colour ≡ replicate count colour
unfolding kept
kept_none most w count colour depth none =
    let nothing : pixels_of most w ≡ [] = ap (pixels_of most) (nil_from_length w none) ∙ pixels_none most depth in
    let all : count - 0 ≡ count = omega arith in
    ap (λ (ps : List Argb). ps ++ replicate (count - length ps) colour) nothing ∙ ap (λ n. replicate n colour) all

-- ---- what is written, and what is not

pub get_front : (most : ℕ) (w : List ℕ) (count at : ℕ) (colour : Argb) → at < length (pixels_of most w) → get_or (kept most w count colour) at clear ≡ get_or (pixels_of most w) at clear
unfolding kept
get_front most w count at colour l = get_or_append_left (pixels_of most w) _ clear at l

pub get_rest : (most : ℕ) (w : List ℕ) (count at : ℕ) (colour : Argb) → length (pixels_of most w) ≤ at → at < count → get_or (kept most w count colour) at clear ≡ colour
unfolding kept
get_rest most w count at colour le l =
    get_or-append_right (pixels_of most w) _ (length (pixels_of most w)) at clear refl le
    ∙ get_or-replicate (count - length (pixels_of most w)) (at - length (pixels_of most w)) colour clear (omega arith)

-- a place that is written out, by the count of bytes
pub in_front : (most at : ℕ) (w : List ℕ) → IsDepth most → IsPacked most w → pixel_size most * at < length w → at < length (pixels_of most w)
in_front most at w depth is l = by (cases_lt at (length (pixels_of most w)))
  where
    by : (at < length (pixels_of most w)) ⊎ (length (pixels_of most w) ≤ at) → at < length (pixels_of most w)
    by (inl low) = low
    by (inr high) = absurd (omega (arith, is.whole, l, mul-le-mul_left {m = length (pixels_of most w)} {n = at} (pixel_size most) high))

pub beyond_front : (most at : ℕ) (w : List ℕ) → IsDepth most → IsPacked most w → length w ≤ pixel_size most * at → length (pixels_of most w) ≤ at
beyond_front most at w depth is le = few_whole most at (length (pixels_of most w)) depth (omega (arith, is.whole, le))

-- of a row that begins there all is written out
pub row_in_front : (most : ℕ) (w row : List ℕ) (capacity count width : ℕ) (colour : Argb) (start n : ℕ) → IsKept most w capacity count width row colour → IsInRow width start n
    → start < length (pixels_of most w) → start + n ≤ length (pixels_of most w)
row_in_front most w row capacity count width colour start n k r l =
    let low : r.row < k.rows = rows_lt r.row k.rows width (omega (arith, r.above, l, k.whole)) in
    omega (arith, rows_le (r.row + 1) k.rows width (omega (arith, low)), r.below, k.whole)

pub row_fits : (width start n : ℕ) → IsInRow width start n → n ≤ width
row_fits width start n r = omega (arith, r.above, r.below)

-- so many pixels of the front
pub between_front : (most : ℕ) (w : List ℕ) (count start n : ℕ) (colour : Argb) → start + n ≤ length (pixels_of most w)
    → between start (start + n) (kept most w count colour) ≡ between start (start + n) (pixels_of most w)
unfolding kept
between_front most w count start n colour within =
    between_is (kept most w count colour) start (start + n)
    ∙ ap (drop start) (take-append-le (start + n) (pixels_of most w) _ within)
    ∙ sym (between_is (pixels_of most w) start (start + n))

-- and of the rest
pub between_rest : (most : ℕ) (w : List ℕ) (count start n : ℕ) (colour : Argb) → length (pixels_of most w) ≤ start → start + n ≤ count → length (kept most w count colour) ≡ count
    → replicate n colour ≡ between start (start + n) (kept most w count colour)
between_rest most w count start n colour beyond within long =
    let many : length (between start (start + n) (kept most w count colour)) ≡ n = (let e = length-between (kept most w count colour) start (start + n) (omega (arith, long)) in omega arith) in
    ext_get_or clear (replicate n colour) (between start (start + n) (kept most w count colour)) (length-replicate n colour ∙ sym many) λ i l.
    let low : i < n = omega (arith, length-replicate n colour) in
    get_or-replicate n i colour clear low
    ∙ sym (get_or-between (kept most w count colour) start (start + n) i clear (omega arith) ∙ get_rest most w count (start + i) colour (omega arith) (omega arith))

-- ---- one more row is written out

pub some_row : (most : ℕ) (w row : List ℕ) (capacity count width end : ℕ) (colour : Argb) → IsKept most w capacity count width row colour → end ≤ count → length w < pixel_size most * end
    → (length w + length row ≤ capacity) × (0 < length row) × (length (pixels_of most w) + width ≤ count) × (0 < width)
some_row most w row capacity count width end colour k le l =
    let size = pixel_size most in
    let all : size * end ≤ size * count = mul-le-mul_left size le in
    let fewer : length (pixels_of most w) < count = (let s : size * length (pixels_of most w) < size * count = omega (arith, k.written.whole) in less s) in
    let low : k.rows < k.height = rows_lt k.rows k.height width (omega (arith, fewer, k.whole, k.all)) in
    let next : k.rows * width + width ≤ k.height * width = omega (arith, rows_le (k.rows + 1) k.height width (omega (arith, low))) in
    let within : length (pixels_of most w) + width ≤ count = omega (arith, next, k.whole, k.all) in
    let wide : length row ≡ size * width = k.row.whole ∙ ap (λ n. size * n) (ap length k.alike ∙ length-replicate width colour) in
    let bytes : size * (length (pixels_of most w) + width) ≤ size * count = mul-le-mul_left size within in
    let some : 0 < width = wide_is k.rows k.height width (omega (arith, fewer, k.whole, k.all)) in
    (omega (arith, bytes, wide, k.written.whole, k.room), omega (arith, wide, some, (size_is most k.depth).0, mul-le-mul_left {m = 1} {n = width} size (omega (arith, some))), within, some)
  where
    less : pixel_size most * length (pixels_of most w) < pixel_size most * count → length (pixels_of most w) < count
    less s = by (cases_lt (length (pixels_of most w)) count)
      where
        by : (length (pixels_of most w) < count) ⊎ (count ≤ length (pixels_of most w)) → length (pixels_of most w) < count
        by (inl low) = low
        by (inr high) = absurd (omega (arith, s, mul-le-mul_left {m = count} {n = length (pixels_of most w)} (pixel_size most) high))

-- the front with one more row
pub more_kept : (most : ℕ) (w row : List ℕ) (capacity count width end : ℕ) (colour : Argb) → IsKept most w capacity count width row colour → end ≤ count → length w < pixel_size most * end
    → IsKept most (w ++ row) capacity count width row colour
more_kept most w row capacity count width end colour k le l =
    let longer : length (pixels_of most (w ++ row)) ≡ length (pixels_of most w) + width =
    ap length (pixels_append most w row k.depth k.written.whole) ∙ length-append (pixels_of most w) (pixels_of most row)
    ∙ ap (λ n. length (pixels_of most w) + n) (ap length k.alike ∙ length-replicate width colour) in
    let within = (some_row most w row capacity count width end colour k le l).2 in
    let low : k.rows < k.height = rows_lt k.rows k.height width (omega (arith, within, k.whole, k.all, (some_row most w row capacity count width end colour k le l).3)) in
    record {
      depth = k.depth;
      written = append_packed most w row k.depth k.written k.row;
      row = k.row;
      alike = k.alike;
      rows = k.rows + 1;
      whole = omega (arith, longer, k.whole);
      height = k.height;
      all = k.all;
      few = omega (arith, low);
      room = k.room;
    }

pub more_same : (most : ℕ) (w row : List ℕ) (capacity count width end : ℕ) (colour : Argb) → IsKept most w capacity count width row colour → end ≤ count → length w < pixel_size most * end
    → kept most (w ++ row) count colour ≡ kept most w count colour
unfolding kept
more_same most w row capacity count width end colour k le l =
    let front = pixels_of most w in
    let within = (some_row most w row capacity count width end colour k le l).2 in
    let apart : pixels_of most (w ++ row) ≡ front ++ replicate width colour = pixels_append most w row k.depth k.written.whole ∙ ap (λ ps. front ++ ps) k.alike in
    let longer : length (front ++ replicate width colour) ≡ length front + width = length-append front (replicate width colour) ∙ ap (λ n. length front + n) (length-replicate width colour) in
    let left : width + (count - length (front ++ replicate width colour)) ≡ count - length front = omega (arith, longer, within) in
    ap (λ (ps : List Argb). ps ++ replicate (count - length ps) colour) apart
    ∙ append_assoc front (replicate width colour) (replicate (count - length (front ++ replicate width colour)) colour)
    ∙ ap (λ ps. front ++ ps) (replicate-append-replicate width (count - length (front ++ replicate width colour)) colour ∙ ap (λ n. replicate n colour) left)

-- all are written out
pub kept_all : (most : ℕ) (w row : List ℕ) (capacity count width : ℕ) (colour : Argb) → IsKept most w capacity count width row colour
    → pixel_size most * count ≤ length w → kept most w count colour ≡ pixels_of most w
unfolding kept
kept_all most w row capacity count width colour k all =
    let enough : count ≤ length (pixels_of most w) = few_whole most (length (pixels_of most w)) count k.depth (omega (arith, all, k.written.whole)) in
    let none : count - length (pixels_of most w) ≡ 0 = omega (arith, enough) in
    ap (λ n. pixels_of most w ++ replicate n colour) none ∙ append-nil (pixels_of most w)

-- ---- a part is written over, where it is written out

pub over_kept : (most : ℕ) (w new row : List ℕ) (capacity cap count width : ℕ) (colour : Argb) → IsKept most w capacity count width row colour → length new ≡ length w → capacity ≤ cap
    → IsPacked most new → IsKept most new cap count width row colour
over_kept most w new row capacity cap count width colour k long more is = record {
  depth = k.depth;
  written = is;
  row = k.row;
  alike = k.alike;
  rows = k.rows;
  whole = pixels_length most (length (pixels_of most w)) new k.depth (long ∙ k.written.whole) ∙ k.whole;
  height = k.height;
  all = k.all;
  few = k.few;
  room = omega (arith, k.room, more);
}

pub put_front : (xs ys rest : List Argb) (s n : ℕ) → s + n ≤ length xs → put_mid s n (xs ++ rest) ys ≡ put_mid s n xs ys ++ rest
put_front xs ys rest s n within =
    ap₂ (λ u v. u ++ (ys ++ v)) (take-append-le s xs rest (omega arith))
    (ap (drop n) (drop-append-le s xs rest (omega arith)) ∙ drop-append-le n (drop s xs) rest (omega (arith, length-drop s xs)))
    ∙ ap (λ v. take s xs ++ v) (sym (append_assoc ys (drop n (drop s xs)) rest))
    ∙ sym (append_assoc (take s xs) (ys ++ drop n (drop s xs)) rest)

pub over_same : (most : ℕ) (w new : List ℕ) (count s n : ℕ) (colour : Argb) (ys : List Argb) → IsDepth most → IsPacked most w → IsPacked most new → length new ≡ length w
    → s + n ≤ length (pixels_of most w) → pixels_of most new ≡ put_mid s n (pixels_of most w) ys → kept most new count colour ≡ put_mid s n (kept most w count colour) ys
unfolding kept
over_same most w new count s n colour ys depth was is long within made =
    let same : length (pixels_of most new) ≡ length (pixels_of most w) = pixels_length most (length (pixels_of most w)) new depth (long ∙ was.whole) in
    ap₂ (λ (ps : List Argb) (m : ℕ). ps ++ replicate (count - m) colour) made same
    ∙ sym (put_front (pixels_of most w) ys (replicate (count - length (pixels_of most w)) colour) s n within)

-- how many pixels there are, by what contracts see
pub seen_length : (most : ℕ) (w row : List ℕ) (capacity count width : ℕ) (colour : Argb) (seen : Rows) → IsKept most w capacity count width row colour
    → (let view : Rows = record { width = width; pixels = kept most w count colour } in view ≡ seen) → length seen.pixels ≡ count
seen_length most w row capacity count width colour seen k is = ap (λ (r : Rows). length r.pixels) (sym is) ∙ kept_length most w row capacity count width colour k

-- the bytes of so many pixels have room
pub bytes_fit : (most size at count capacity : ℕ) → size ≡ pixel_size most → at ≤ count → pixel_size most * count ≤ capacity → size * at ≤ capacity
bytes_fit most size at count capacity is le room = omega (arith, ap (λ s. s * at) is, mul-le-mul_left {m = at} {n = count} (pixel_size most) le, room)

-- so many pixels of a row of one colour
pub between_alike : (row : List Argb) (width n : ℕ) (colour : Argb) → row ≡ replicate width colour → n ≤ width → between 0 (0 + n) row ≡ replicate n colour
between_alike row width n colour alike within =
    let e : 0 + n ≡ n = omega arith in
    ap₂ (λ (j : ℕ) (r : List Argb). between 0 j r) e alike ∙ between_is (replicate width colour) 0 n ∙ take-replicate n width colour within

-- a part is written over in a `Vec`
pub stored_kept : {Z : Type 0} (most : ℕ) (v : Vec ℕ Z) (new row : List ℕ) (count width : ℕ) (colour : Argb) → vec_len v ≡ length v.items
    → IsKept most v.items (vec_capacity v) count width row colour → length new ≡ length v.items → IsPacked most new
    → IsKept most (with_items v new).items (vec_capacity v) count width row colour
stored_kept most v new row count width colour long k same is =
    let items = with_items_is v new (same ∙ sym long) in
    subst (λ (l : List ℕ). IsKept most l (vec_capacity v) count width row colour) (sym items)
    (over_kept most v.items new row (vec_capacity v) (vec_capacity v) count width colour k same (omega arith) is)

pub stored : {Z : Type 0} (most : ℕ) (v : Vec ℕ Z) (new row : List ℕ) (count width s n : ℕ) (colour : Argb) (ys seen : List Argb) → vec_len v ≡ length v.items
    → IsKept most v.items (vec_capacity v) count width row colour → length new ≡ length v.items → IsPacked most new → pixel_size most * (s + n) ≤ length v.items
    → pixels_of most new ≡ put_mid s n (pixels_of most v.items) ys → kept most v.items count colour ≡ seen
    → kept most (with_items v new).items count colour ≡ put_mid s n seen ys
stored most v new row count width s n colour ys seen long k same is within made was =
    let items = with_items_is v new (same ∙ sym long) in
    let there : s + n ≤ length (pixels_of most v.items) = few_whole most (length (pixels_of most v.items)) (s + n) k.depth (omega (arith, within, k.written.whole)) in
    ap (λ l. kept most l count colour) items ∙ over_same most v.items new count s n colour ys k.depth k.written is same there made
    ∙ ap (λ ps. put_mid s n ps ys) was

-- nothing is written yet
pub none_kept : (most : ℕ) (w row : List ℕ) (capacity width height : ℕ) (colour : Argb) → IsDepth most → w ≡ [] → IsPacked most row → pixels_of most row ≡ replicate width colour
    → pixel_size most * (width * height) ≤ capacity → IsKept most w capacity (width * height) width row colour
none_kept most w row capacity width height colour depth none is alike room =
    let nothing : pixels_of most w ≡ [] = ap (pixels_of most) none ∙ pixels_none most depth in
    record {
      depth = depth;
      written = packed_made most 0 w depth (ap length none ∙ omega arith) (subst (All (IsPremultiplied most)) (sym nothing) (All-nil (IsPremultiplied most)));
      row = is;
      alike = alike;
      rows = 0;
      whole = ap length nothing ∙ omega arith;
      height = height;
      all = omega arith;
      few = omega arith;
      room = room;
    }

-- a width that is none where there are no rows
pub width_or_none : (w width height : ℕ) → (0 < height → w ≡ width) → (height ≡ 0 → w ≡ 0) → w * height ≡ width * height
width_or_none w width zero some none = omega arith
width_or_none w width (suc n) some none = ap (λ v. v * suc n) (some (omega arith))
