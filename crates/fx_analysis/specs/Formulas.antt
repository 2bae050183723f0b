-- What becomes of a pixel, by the sums of analyses. The pixel is premultiplied: `a` is its alpha, `c` a colour of it. All keep
-- alpha. What is not in a list of sums counts as 0.
use Rattle.std.specs.Prelude.{ℕ, zero, suc, ◌+◌, ◌-◌, ◌*◌, ◌/◌, ◌==◌, min, nat_lt, nat_le, pos, ◌-ℤ◌, Bool, ◌||◌, List, [], take, drop, sum, sum_by, slice_index_or, if◌then◌else◌}
use Rattle.std.specs.List.{range_with_len, position_or_len}
use Rattle.rational_time.specs.Times.{floor_of}
use Rattle.argb_pixel.specs.Pixel.{Argb}
use Rattle.fx_color.specs.Formulas.{with_colours, held_below}

-- the sums of an ask by its number, and a number of such sums
abbrev pub sums_at : List (List ℕ) → ℕ → List ℕ
sums_at sums i = slice_index_or sums i []

abbrev pub number_in : List ℕ → ℕ → ℕ
number_in sums i = slice_index_or sums i 0

-- ---- by a histogram

-- how many pixels are at a level or below, and how many at it or above
abbrev pub count_to : List ℕ → ℕ → ℕ
count_to counts level = sum (take (level + 1) counts)

abbrev pub count_from : List ℕ → ℕ → ℕ
count_from counts level = sum (drop level counts)

-- they are more than `clip` 10000ths of all pixels
abbrev pub is_more : ℕ → List ℕ → ℕ → Bool
is_more clip counts count = nat_lt (clip * sum counts) (10000 * count)

-- the greatest number below another that passes a test, and 0 where none does
abbrev pub greatest_below : (ℕ → Bool) → ℕ → ℕ
greatest_below test zero = 0
greatest_below test (suc n) = if test n then n else greatest_below test n

-- the least level up to which there are more, and 256 where there is none
unfoldable pub low_of : ℕ → List ℕ → ℕ
low_of clip counts = position_or_len (λ level. is_more clip counts (count_to counts level)) (range_with_len 0 256)

-- the greatest level from which on there are more
unfoldable pub high_of : ℕ → List ℕ → ℕ
high_of clip counts = greatest_below (λ level. is_more clip counts (count_from counts level)) 256

-- `floor((255*c - low*a) / (high - low))` held to `0..=a`
abbrev pub spread_part : ℕ → ℕ → ℕ → ℕ → ℕ
spread_part low high a c = held_below a (floor_of (pos (255 * c) -ℤ pos (low * a)) (pos (high - low)))

-- the colours between two levels spread over all of them. The pixel stays where the first is not below the second, or where
-- nothing was counted
abbrev pub spread : ℕ → ℕ → ℕ → Argb → Argb
spread total low high p =
    if total == 0 || nat_le high low
    then p
    else with_colours p (spread_part low high p.a p.r) (spread_part low high p.a p.g) (spread_part low high p.a p.b)

-- AutoLevels: `clip` 10000ths of the pixels may become black, and as many white
abbrev pub auto_levelled : ℕ → List ℕ → Argb → Argb
auto_levelled clip counts p = spread (sum counts) (low_of clip counts) (high_of clip counts) p

-- `floor(a * n / total)` with the `n` pixels at the level `floor(c*255 / a)` or below
abbrev pub equalized_part : List ℕ → ℕ → ℕ → ℕ
equalized_part counts a c = a * count_to counts (c * 255 / a) / sum counts

-- Equalize: each colour becomes the share of pixels that are at its level or below. The pixel stays where it is transparent, or
-- where nothing was counted
abbrev pub equalized : List ℕ → Argb → Argb
equalized counts p =
    if sum counts == 0 || p.a == 0
    then p
    else with_colours p (equalized_part counts p.a p.r) (equalized_part counts p.a p.g) (equalized_part counts p.a p.b)

-- ---- by light

-- `floor(c * luma * middle_alpha / (alpha * middle_luma))`, at most `a`
abbrev pub relit_part : ℕ → ℕ → ℕ → ℕ → ℕ → ℕ → ℕ
relit_part luma alpha middle_luma middle_alpha a c = min a (c * luma * middle_alpha / (alpha * middle_luma))

-- how bright alpha is in the middle becomes how bright it is in all. The pixel stays where the middle is black, or where all is
-- transparent
abbrev pub relit : ℕ → ℕ → ℕ → ℕ → Argb → Argb
relit luma alpha middle_luma middle_alpha p =
    if middle_luma == 0 || alpha == 0
    then p
    else with_colours p (relit_part luma alpha middle_luma middle_alpha p.a p.r)
    (relit_part luma alpha middle_luma middle_alpha p.a p.g) (relit_part luma alpha middle_luma middle_alpha p.a p.b)

-- Deflicker: the middle is the ask with the number `radius`
abbrev pub deflickered : ℕ → List (List ℕ) → Argb → Argb
deflickered radius sums p =
    relit (sum_by (λ light. number_in light 0) sums) (sum_by (λ light. number_in light 1) sums)
    (number_in (sums_at sums radius) 0) (number_in (sums_at sums radius) 1) p
