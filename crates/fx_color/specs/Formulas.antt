-- Colour formulas of a pixel. The pixel is premultiplied: `a` is its alpha, `c` a colour of it. All keep alpha.
use Rattle.std.specs.Prelude.{ℕ, ◌+◌, ◌-◌, ◌*◌, ◌/◌, ◌%◌, ◌==◌, nat_le, ℤ, pos, ◌+ℤ◌, ◌*ℤ◌, List, slice_index_or, length, if◌then◌else◌}
use Rattle.std.specs.Int.{int_min}
use Rattle.geom_rect.specs.Rect.{positive_part}
use Rattle.rational_time.specs.Times.{floor_of}
use Rattle.argb_pixel.specs.Pixel.{Argb, luma_of}

-- the same alpha, and other colours
abbrev pub with_colours : Argb → ℕ → ℕ → ℕ → Argb
with_colours p r g b = record { a = p.a; r = r; g = g; b = b }

-- a colour with its number: where the channel is 0 or this, what is left of alpha
abbrev pub inverted_part : ℕ → ℕ → ℕ → ℕ → ℕ
inverted_part channel a number c = if channel == 0 then a - c else (if channel == number then a - c else c)

-- channel 0: each colour `c` becomes `a - c`; channel 1, 2 or 3: only red, green or blue
abbrev pub inverted : ℕ → Argb → Argb
inverted channel p = with_colours p (inverted_part channel p.a 1 p.r) (inverted_part channel p.a 2 p.g) (inverted_part channel p.a 3 p.b)

-- all of alpha where the luma is at least `level` 10000ths of it, else nothing
abbrev pub threshold_part : ℕ → ℕ → ℕ → ℕ
threshold_part level a l = if nat_le (level * a) (l * 10000) then a else 0

abbrev pub at_threshold : ℕ → Argb → Argb
at_threshold level p =
    with_colours p (threshold_part level p.a (luma_of p)) (threshold_part level p.a (luma_of p)) (threshold_part level p.a (luma_of p))

-- the channel with the number: red, green, blue, alpha, or nothing
abbrev pub channel_of : Argb → ℕ → ℕ
channel_of p number =
    if number == 0 then p.r else (if number == 1 then p.g else (if number == 2 then p.b else (if number == 3 then p.a else 0)))

-- each colour is taken from the channel with its number
abbrev pub shifted : ℕ → ℕ → ℕ → Argb → Argb
shifted red green blue p = with_colours p (channel_of p red) (channel_of p green) (channel_of p blue)

-- held to 0..=most
abbrev pub held_below : ℕ → ℤ → ℕ
held_below most z = positive_part (int_min (pos most) z)

-- `floor((c*scale + a*offset + 5000) / 10000)` held to `0..=a`
abbrev pub scaled_part : ℤ → ℤ → ℕ → ℕ → ℕ
scaled_part scale offset a c =
    held_below a (floor_of (((pos c *ℤ scale) +ℤ (pos a *ℤ offset)) +ℤ pos 5000) (pos 10000))

abbrev pub scaled : ℤ → ℤ → Argb → Argb
scaled scale offset p = with_colours p (scaled_part scale offset p.a p.r) (scaled_part scale offset p.a p.g) (scaled_part scale offset p.a p.b)

-- with `m = floor((black*(a-l) + white*l + 5000) / 10000)`, `floor((c*(10000-amount) + m*amount + 5000) / 10000)`
abbrev pub tinted_part : ℕ → ℕ → ℕ → ℕ → ℕ → ℕ → ℕ
tinted_part black white amount a l c =
    let m = (black * (a - l) + white * l + 5000) / 10000 in
    (c * (10000 - amount) + m * amount + 5000) / 10000

-- each colour, between its black and its white
abbrev pub tinted_by : ℕ → ℕ → ℕ → ℕ → ℕ → ℕ → ℕ → Argb → Argb
tinted_by amount black_red white_red black_green white_green black_blue white_blue p = with_colours p
    (tinted_part black_red white_red amount p.a (luma_of p) p.r)
    (tinted_part black_green white_green amount p.a (luma_of p) p.g)
    (tinted_part black_blue white_blue amount p.a (luma_of p) p.b)

-- the number of the entry of `k`: 0 where `a = 0`, else `floor(l*(k-1)/a)`
abbrev pub entry_of : ℕ → Argb → ℕ
entry_of k p = if p.a == 0 then 0 else luma_of p * (k - 1) / p.a

-- the byte at a place: a number below 256
abbrev pub byte_at : List ℕ → ℕ → ℕ
byte_at bytes place = slice_index_or bytes place 0 % 256

-- `floor((a*e + 127) / 255)` with the byte `e` at the place
abbrev pub mapped_part : List ℕ → ℕ → ℕ → ℕ
mapped_part bytes place a = (a * byte_at bytes place + 127) / 255

-- each colour by its byte of the pixel's entry
abbrev pub mapped : List ℕ → Argb → Argb
mapped bytes p =
    let place = 3 * entry_of (length bytes / 3) p in
    with_colours p (mapped_part bytes place p.a) (mapped_part bytes (place + 1) p.a) (mapped_part bytes (place + 2) p.a)
