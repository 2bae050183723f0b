-- The pixels of a plane, row by row, and what is counted over them.
use Rattle.std.specs.Prelude.{not, ◌&&◌, ◌==◌, flat_map, sum_by, count_by}
use Rattle.std.specs.List.{All, range_with_len}
use Rattle.std.proofs.Common.{◌≡◌, ◌≢◌, ℕ, zero, suc, ◌+◌, ◌*◌, ◌/◌, ◌<◌, ◌≤◌, ℤ, pos, ◌+ℤ◌, Bool, true, false, cond, List, [], ◌∷◌, ◌++◌, length, map, get_or, set, take, replicate, if◌then◌else◌, refl, ap, ap₂, sym, subst, ◌∙◌, arith, inl, inr, ◌⊎◌, append_assoc, add-one, length-append, length-take}
use Rattle.std.proofs.lemmas.Bool.{eqb-true, eqb-false, cases_lt}
use Rattle.std.proofs.lemmas.List.{ext_get_or, get_or-set_same, get_or-set_other, get_or-replicate, length-replicate, length-set, get_or_past, append-nil, take_more, take_all}
use Rattle.std.proofs.lemmas.List.FromFn.{get_or-map-range_with_len, length-map-range_with_len, map-range_with_len_more}
use Rattle.std.proofs.lemmas.List.Folds.{flat_map-map}
use Rattle.std.proofs.lemmas.List.Sums.{sum_by_push, sum_by_more, sum_by-append, sum_by-le, count_by-le-length}
use Rattle.std.proofs.lemmas.List.Elements.{All-append, All-from_get_or, All-take}
use Rattle.std.proofs.lemmas.Grind.{flat_map-append}
use Rattle.std.proofs.Math.Nat.{mul-le-mul_right, div-le_of_le-mul}
use Rattle.geom_rect.specs.Rect.{count_between, width_of, area_of}
use Rattle.argb_pixel.specs.Pixel.{Argb, IsPremultiplied, clear, luma_of}
use Rattle.argb_pixel.specs.Depth.{IsDepth}
use Rattle.argb_pixel.proofs.Channels.{luma_within}
use Rattle.argb_world.specs.Picture.{greatest_part}
use Rattle.comp_stack.specs.Stack.{Plane}
use Rattle.fx_analysis.specs.Sums.{line_of, rows_of, level_of, is_at_level, histogram_of}

-- ---- a histogram

-- a histogram with one pixel more
abbrev pub with_pixel : Argb → List ℕ → List ℕ
with_pixel p counts = if p.a == 0 then counts else set counts (level_of p) (get_or counts (level_of p) 0 + 1)

pub count_at : (pixels : List Argb) (level : ℕ) → level < 256 → get_or (histogram_of pixels) level 0 ≡ count_by (is_at_level level) pixels
unfolding histogram_of
count_at pixels level l = get_or-map-range_with_len (λ k. count_by (is_at_level k) pixels) 0 256 level level 0 l (omega arith)

pub long_histogram : (pixels : List Argb) → length (histogram_of pixels) ≡ 256
unfolding histogram_of
long_histogram pixels = length-map-range_with_len (λ k. count_by (is_at_level k) pixels) 0 256

pub no_pixels : replicate 256 0 ≡ histogram_of []
no_pixels = ext_get_or 0 (replicate 256 0) (histogram_of []) (length-replicate {A = ℕ} 256 0 ∙ sym (long_histogram [])) λ k l.
    let low : k < 256 = omega (arith, l, length-replicate {A = ℕ} 256 0) in
    get_or-replicate 256 k 0 0 low ∙ sym (count_at [] k low)

-- each count is at most the number of pixels
pub count_within : (pixels : List Argb) (level : ℕ) → level < 256 → get_or (histogram_of pixels) level 0 ≤ length pixels
count_within pixels level l = subst (λ (n : ℕ). n ≤ length pixels) (sym (count_at pixels level l)) (count_by-le-length (is_at_level level) pixels)

module _ (pixels : List Argb) (p : Argb) where
  -- the count of a level with one pixel more
  counted : (level : ℕ) (t : Bool) → is_at_level level p ≡ t → count_by (is_at_level level) (pixels ++ p ∷ []) ≡ count_by (is_at_level level) pixels + cond t 1 0
  counted level t e =
      sum_by_push (λ q. cond (is_at_level level q) 1 0) pixels p ∙ ap (λ (b : Bool). count_by (is_at_level level) pixels + cond b 1 0) e

  at_level : (level : ℕ) (b c : Bool) → (p.a == 0) ≡ b → (level_of p == level) ≡ c → is_at_level level p ≡ (not b && c)
  at_level level b c e f = ap₂ (λ (u v : Bool). not u && v) e f

  one_level : (b c : Bool) (level : ℕ) → (p.a == 0) ≡ b → (level_of p == level) ≡ c → (b ≡ false → level_of p < 256) → level < 256
      → get_or (if b then histogram_of pixels else set (histogram_of pixels) (level_of p) (get_or (histogram_of pixels) (level_of p) 0 + 1)) level 0
      ≡ count_by (is_at_level level) (pixels ++ p ∷ [])
  one_level true c level e f low l =
      count_at pixels level l ∙ (let same : count_by (is_at_level level) pixels ≡ count_by (is_at_level level) pixels + 0 = omega arith in same) ∙ sym (counted level false (at_level level true c e f))
  one_level false true level e f low l =
      let here : level_of p ≡ level = eqb-true (level_of p) level f in
      let there : level_of p < length (histogram_of pixels) = omega (arith, low refl, long_histogram pixels) in
      ap (λ (k : ℕ). get_or (set (histogram_of pixels) (level_of p) (get_or (histogram_of pixels) (level_of p) 0 + 1)) k 0) (sym here)
      ∙ get_or-set_same (histogram_of pixels) (level_of p) (get_or (histogram_of pixels) (level_of p) 0 + 1) 0 there
      ∙ ap (λ (k : ℕ). get_or (histogram_of pixels) k 0 + 1) here
      ∙ ap (λ (n : ℕ). n + 1) (count_at pixels level l) ∙ sym (counted level true (at_level level false true e f))
  one_level false false level e f low l =
      get_or-set_other (histogram_of pixels) (level_of p) level (get_or (histogram_of pixels) (level_of p) 0 + 1) 0 (λ h. eqb-false (level_of p) level f (sym h))
      ∙ count_at pixels level l ∙ (let same : count_by (is_at_level level) pixels ≡ count_by (is_at_level level) pixels + 0 = omega arith in same)
      ∙ sym (counted level false (at_level level false false e f))

  long_with : (b : Bool) (n : ℕ) → length (if b then histogram_of pixels else set (histogram_of pixels) (level_of p) n) ≡ 256
  long_with true n = long_histogram pixels
  long_with false n = length-set (histogram_of pixels) (level_of p) n ∙ long_histogram pixels

  pub pixel_more : ((p.a == 0) ≡ false → level_of p < 256) → with_pixel p (histogram_of pixels) ≡ histogram_of (pixels ++ p ∷ [])
  pixel_more low = ext_get_or 0 (with_pixel p (histogram_of pixels)) (histogram_of (pixels ++ p ∷ []))
      (long ∙ sym (long_histogram (pixels ++ p ∷ []))) λ k l.
      let below : k < 256 = omega (arith, l, long) in
      one_level (p.a == 0) (level_of p == k) k refl refl low below ∙ sym (count_at (pixels ++ p ∷ []) k below)
    where
      long : length (with_pixel p (histogram_of pixels)) ≡ 256
      long = long_with (p.a == 0) (get_or (histogram_of pixels) (level_of p) 0 + 1)

-- the level of a pixel that is not transparent
pub level_within : (l a : ℕ) → 0 < a → l ≤ a → l * 255 / a < 256
level_within l a some low = (let h : l * 255 / a ≤ 255 = div-le_of_le-mul a (omega (arith, low)) in omega (arith, h))

pub level_low : (most : ℕ) (p : Argb) → IsPremultiplied most p → (p.a == 0) ≡ false → level_of p < 256
level_low most p is some =
    let there : p.a ≢ 0 = eqb-false p.a 0 some in
    level_within (luma_of p) p.a (omega (arith, there)) (luma_within p.a p record { alpha = omega arith; red = is.red; green = is.green; blue = is.blue })

-- there is room for one more at each level
pub room : (pixels : List Argb) (level : ℕ) → length pixels ≤ greatest_part → get_or (histogram_of pixels) level 0 < 9223372036854775808
room pixels level few = by (cases_lt level 256)
  where
    by : (level < 256) ⊎ (256 ≤ level) → get_or (histogram_of pixels) level 0 < 9223372036854775808
    by (inl low) = omega (arith, count_within pixels level low, few)
    by (inr high) =
        subst (λ (n : ℕ). n < 9223372036854775808) (sym (get_or_past (histogram_of pixels) level 0 (omega (arith, long_histogram pixels, high)))) (omega arith)

-- ---- rows

pub long_line : (plane : Plane) (y : ℤ) → length (line_of plane y) ≡ width_of plane.extent
long_line plane y = length-map-range_with_len (λ k. plane.at (plane.extent.left +ℤ pos k) y) 0 (width_of plane.extent)

pub row_more : (plane : Plane) (rows : ℕ) → rows_of plane (rows + 1) ≡ rows_of plane rows ++ line_of plane (plane.extent.top +ℤ pos rows)
row_more plane rows =
    sym (flat_map-map line (λ k. k) (range_with_len 0 (rows + 1)))
    ∙ ap (flat_map line) (map-range_with_len_more (λ k. k) 0 rows rows (omega arith))
    ∙ flat_map-append line (map (λ k. k) (range_with_len 0 rows)) (rows ∷ [])
    ∙ ap₂ (λ u v. u ++ v) (flat_map-map line (λ k. k) (range_with_len 0 rows)) (append-nil (line rows))
  where
    line : ℕ → List Argb
    line k = line_of plane (plane.extent.top +ℤ pos k)

pub long_rows : (plane : Plane) (rows : ℕ) → length (rows_of plane rows) ≡ rows * width_of plane.extent
long_rows plane zero = omega arith
long_rows plane (suc rows) =
    ap (λ (n : ℕ). length (rows_of plane n)) (sym (add-one rows)) ∙ ap length (row_more plane rows)
    ∙ length-append (rows_of plane rows) (line_of plane (plane.extent.top +ℤ pos rows))
    ∙ ap₂ (λ (m n : ℕ). m + n) (long_rows plane rows) (long_line plane (plane.extent.top +ℤ pos rows)) ∙ omega arith

-- some rows and a part of the next one are no more pixels than the plane has
pub part_within : (width height k i : ℕ) → k < height → i ≤ width → k * width + i ≤ width * height
part_within width height k i below near =
    let h : (k + 1) * width ≤ height * width = mul-le-mul_right width (omega (arith, below)) in omega (arith, h, near)

pub few_pixels : (plane : Plane) (k i : ℕ) → k < count_between plane.extent.top plane.extent.bottom → i ≤ width_of plane.extent → area_of plane.extent ≤ greatest_part
    → length (rows_of plane k ++ take i (line_of plane (plane.extent.top +ℤ pos k))) ≤ greatest_part
few_pixels plane k i below near few =
    let line = line_of plane (plane.extent.top +ℤ pos k) in
    let both = part_within (width_of plane.extent) (count_between plane.extent.top plane.extent.bottom) k i below near in
    let some : length (take i line) ≤ i = omega (arith, length-take i line) in
    omega (arith, length-append (rows_of plane k) (take i line), long_rows plane k, some, both, few)

-- a whole row is counted
pub row_done : (plane : Plane) (k i : ℕ) → width_of plane.extent ≤ i
    → rows_of plane k ++ take i (line_of plane (plane.extent.top +ℤ pos k)) ≡ rows_of plane (k + 1)
row_done plane k i all =
    ap (λ (ps : List Argb). rows_of plane k ++ ps) (take_all i (line_of plane (plane.extent.top +ℤ pos k)) (omega (arith, long_line plane (plane.extent.top +ℤ pos k), all)))
    ∙ sym (row_more plane k)

-- the pixels that were counted, with the next of a row
pub next_pixel : (before row : List Argb) (i : ℕ) (p : Argb) → i < length row → p ≡ get_or row i clear
    → (before ++ take i row) ++ p ∷ [] ≡ before ++ take (i + 1) row
next_pixel before row i p l is =
    append_assoc before (take i row) (p ∷ [])
    ∙ ap (λ (q : Argb). before ++ (take i row ++ q ∷ [])) is ∙ ap (λ (ps : List Argb). before ++ ps) (sym (take_more row i clear l))

-- what holds of each pixel of a plane
pub all_line : (P : Argb → Type 0) (plane : Plane) → ((x y : ℤ) → P (plane.at x y)) → (y : ℤ) → All P (line_of plane y)
all_line P plane each y = All-from_get_or P (line_of plane y) clear λ k l.
    let low : k < width_of plane.extent = omega (arith, l, long_line plane y) in
    subst P (sym (get_or-map-range_with_len (λ k. plane.at (plane.extent.left +ℤ pos k) y) 0 (width_of plane.extent) k k clear low (omega arith)))
    (each (plane.extent.left +ℤ pos k) y)

pub all_rows : (P : Argb → Type 0) (plane : Plane) → ((x y : ℤ) → P (plane.at x y)) → (rows : ℕ) → All P (rows_of plane rows)
all_rows P plane each zero = λ k d l. absurd (omega (arith, l))
all_rows P plane each (suc rows) =
    subst (All P) (sym (row_more plane rows) ∙ ap (rows_of plane) (add-one rows))
    (All-append P (rows_of plane rows) (line_of plane (plane.extent.top +ℤ pos rows)) (all_rows P plane each rows) (all_line P plane each (plane.extent.top +ℤ pos rows)))

-- a depth's channels have at most 16 bits
pub depth_within : (most : ℕ) → IsDepth most → most ≤ 32768
depth_within most depth = elim depth [ inl e ↦ omega (arith, e) | inr e ↦ omega (arith, e) ]

-- a sum over a part of a row
pub line_sum : (f : Argb → ℕ) (pixels : List Argb) (i : ℕ) → All (λ p. f p ≤ 32768) pixels → sum_by f (take i pixels) ≤ i * 32768
line_sum f pixels i each =
    let some : length (take i pixels) ≤ i = omega (arith, length-take i pixels) in
    let more : length (take i pixels) * 32768 ≤ i * 32768 = mul-le-mul_right 32768 some in
    omega (arith, sum_by-le f 32768 (take i pixels) (All-take (λ p. f p ≤ 32768) i pixels each), more)

pub luma_few : (most : ℕ) (p : Argb) → IsDepth most → IsPremultiplied most p → luma_of p ≤ 32768
luma_few most p depth is = omega (arith, depth_within most depth, luma_within most p is)

pub alpha_few : (most : ℕ) (p : Argb) → IsDepth most → IsPremultiplied most p → p.a ≤ 32768
alpha_few most p depth is = omega (arith, depth_within most depth, is.alpha)

pub sum_next : (f : Argb → ℕ) (pixels : List Argb) (i n m : ℕ) (p : Argb) → i < length pixels → n ≡ sum_by f (take i pixels) → p ≡ get_or pixels i clear → m ≡ f p
    → n + m ≡ sum_by f (take (i + 1) pixels)
sum_next f pixels i n m p l is pixel one =
    ap₂ (λ (u v : ℕ). u + v) is (one ∙ ap f pixel) ∙ sym (sum_by_more f pixels i clear l)

-- a sum over some rows
pub sum_within : (f : Argb → ℕ) (plane : Plane) (rows : ℕ) → ((x y : ℤ) → f (plane.at x y) ≤ 32768) → rows ≤ count_between plane.extent.top plane.extent.bottom
    → sum_by f (rows_of plane rows) ≤ 32768 * area_of plane.extent
sum_within f plane rows each few =
    let h = sum_by-le f 32768 (rows_of plane rows) (all_rows (λ p. f p ≤ 32768) plane each rows) in
    let area : rows * width_of plane.extent ≤ count_between plane.extent.top plane.extent.bottom * width_of plane.extent = mul-le-mul_right (width_of plane.extent) few in
    omega (arith, h, long_rows plane rows, area)

pub sum_more : (f : Argb → ℕ) (plane : Plane) (rows n : ℕ) → n ≡ sum_by f (rows_of plane rows)
    → n + sum_by f (line_of plane (plane.extent.top +ℤ pos rows)) ≡ sum_by f (rows_of plane (rows + 1))
sum_more f plane rows n is =
    ap (λ (m : ℕ). m + sum_by f (line_of plane (plane.extent.top +ℤ pos rows))) is
    ∙ sym (sum_by-append f (rows_of plane rows) (line_of plane (plane.extent.top +ℤ pos rows))) ∙ ap (sum_by f) (sym (row_more plane rows))
