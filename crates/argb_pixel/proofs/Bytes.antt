-- Packed pixels: the bytes of one pixel, and of a row.
use Rattle.std.proofs.Common.{◌≡◌, ℕ, zero, suc, ◌*◌, ◌/◌, ◌%◌, ◌<◌, ◌≤◌, List, [], ◌∷◌, ◌++◌, All, flat_map, length, take, drop, get_or, inl, inr, refl, ap, ap₂, sym, subst, ◌∙◌, arith}
use Rattle.argb_pixel.specs.Depth.{IsDepth}
use Rattle.argb_pixel.specs.Pixel.{Argb, IsPremultiplied}
use Rattle.argb_pixel.specs.Packed.{pixel_size, packed, pixels_of, pixels_of_8, pixels_of_16, channel_of, IsPacked}
use Rattle.argb_pixel.specs.Laws.{PackedAndRead, ReadAndPacked}
use Rattle.argb_pixel.proofs.Channels.{same_argb}

-- a channel is its two bytes
channel_is : (c : ℕ) → c ≤ 32768 → channel_of (c / 256 % 256) (c % 256) ≡ c
channel_is c le = omega arith

high_is : (h l : ℕ) → h < 256 → l < 256 → channel_of h l / 256 % 256 ≡ h
high_is h l hh hl = omega arith

low_is : (h l : ℕ) → h < 256 → l < 256 → channel_of h l % 256 ≡ l
low_is h l hh hl = omega arith

read_8 : (p : Argb) → pixels_of 255 (packed 255 p) ≡ p ∷ []
read_8 p = refl

read_16 : (p : Argb) → IsPremultiplied 32768 p → pixels_of 32768 (packed 32768 p) ≡ p ∷ []
read_16 p fits =
    ap (λ (q : Argb). q ∷ []) (same_argb _ _ _ _ _ _ _ _ (channel_is p.a fits.alpha) (channel_is p.r (omega (arith, fits.alpha, fits.red)))
    (channel_is p.g (omega (arith, fits.alpha, fits.green))) (channel_is p.b (omega (arith, fits.alpha, fits.blue))))

pub packed_and_read : PackedAndRead
packed_and_read most p (inl e) fits = subst (λ m. pixels_of m (packed m p) ≡ p ∷ []) (sym e) (read_8 p)
packed_and_read most p (inr e) fits =
    subst (λ m. pixels_of m (packed m p) ≡ p ∷ []) (sym e) (read_16 p (subst (λ m. IsPremultiplied m p) e fits))

-- the bytes of a row
packed_8 : (bytes : List ℕ) → length bytes ≡ 4 * length (pixels_of_8 bytes) → flat_map (packed 255) (pixels_of_8 bytes) ≡ bytes
packed_8 [] e = refl
packed_8 (a ∷ []) e = absurd (omega (arith, e))
packed_8 (a ∷ r ∷ []) e = absurd (omega (arith, e))
packed_8 (a ∷ r ∷ g ∷ []) e = absurd (omega (arith, e))
packed_8 (a ∷ r ∷ g ∷ b ∷ rest) e = ap (λ t. a ∷ r ∷ g ∷ b ∷ t) (packed_8 rest (omega (arith, e)))

two_bytes : (h l : ℕ) (t : List ℕ) → h < 256 → l < 256 → channel_of h l / 256 % 256 ∷ channel_of h l % 256 ∷ t ≡ h ∷ l ∷ t
two_bytes h l t hh hl = ap₂ (λ x y. x ∷ y ∷ t) (high_is h l hh hl) (low_is h l hh hl)

packed_16 : (bytes : List ℕ) → length bytes ≡ 8 * length (pixels_of_16 bytes) → All (λ byte. byte < 256) bytes
    → flat_map (packed 32768) (pixels_of_16 bytes) ≡ bytes
packed_16 [] e small = refl
packed_16 (a ∷ []) e small = absurd (omega (arith, e))
packed_16 (a ∷ a' ∷ []) e small = absurd (omega (arith, e))
packed_16 (a ∷ a' ∷ r ∷ []) e small = absurd (omega (arith, e))
packed_16 (a ∷ a' ∷ r ∷ r' ∷ []) e small = absurd (omega (arith, e))
packed_16 (a ∷ a' ∷ r ∷ r' ∷ g ∷ []) e small = absurd (omega (arith, e))
packed_16 (a ∷ a' ∷ r ∷ r' ∷ g ∷ g' ∷ []) e small = absurd (omega (arith, e))
packed_16 (a ∷ a' ∷ r ∷ r' ∷ g ∷ g' ∷ b ∷ []) e small = absurd (omega (arith, e))
packed_16 (a ∷ a' ∷ r ∷ r' ∷ g ∷ g' ∷ b ∷ b' ∷ rest) e small =
    let others : All (λ byte. byte < 256) rest = λ k d le. small (suc (suc (suc (suc (suc (suc (suc (suc k)))))))) d (omega (arith, le)) in
    two_bytes a a' _ (small 0 0 (omega arith)) (small 1 0 (omega arith))
    ∙ ap (λ t. a ∷ a' ∷ t) (two_bytes r r' _ (small 2 0 (omega arith)) (small 3 0 (omega arith))
    ∙ ap (λ t. r ∷ r' ∷ t) (two_bytes g g' _ (small 4 0 (omega arith)) (small 5 0 (omega arith))
    ∙ ap (λ t. g ∷ g' ∷ t) (two_bytes b b' _ (small 6 0 (omega arith)) (small 7 0 (omega arith))
    ∙ ap (λ t. b ∷ b' ∷ t) (packed_16 rest (omega (arith, e)) others))))

pub read_and_packed : ReadAndPacked
read_and_packed most bytes (inl e) fits small =
    subst (λ m. flat_map (packed m) (pixels_of m bytes) ≡ bytes) (sym e) (packed_8 bytes (subst (λ m. IsPacked m bytes) e fits).whole)
read_and_packed most bytes (inr e) fits small =
    subst (λ m. flat_map (packed m) (pixels_of m bytes) ≡ bytes) (sym e) (packed_16 bytes (subst (λ m. IsPacked m bytes) e fits).whole small)

-- so many bytes as a pixel has
pub one_8 : (bytes : List ℕ) → length bytes ≡ 4
    → pixels_of_8 bytes ≡ record { a = get_or bytes 0 0; r = get_or bytes 1 0; g = get_or bytes 2 0; b = get_or bytes 3 0 } ∷ []
one_8 (a ∷ r ∷ g ∷ b ∷ []) e = refl
one_8 [] e = absurd (omega (arith, e))
one_8 (a ∷ []) e = absurd (omega (arith, e))
one_8 (a ∷ r ∷ []) e = absurd (omega (arith, e))
one_8 (a ∷ r ∷ g ∷ []) e = absurd (omega (arith, e))
one_8 (a ∷ r ∷ g ∷ b ∷ x ∷ rest) e = absurd (omega (arith, e))

pub one_16 : (bytes : List ℕ) → length bytes ≡ 8
    → pixels_of_16 bytes ≡ record { a = channel_of (get_or bytes 0 0) (get_or bytes 1 0); r = channel_of (get_or bytes 2 0) (get_or bytes 3 0); g = channel_of (get_or bytes 4 0) (get_or bytes 5 0); b = channel_of (get_or bytes 6 0) (get_or bytes 7 0) } ∷ []
one_16 (a ∷ a' ∷ r ∷ r' ∷ g ∷ g' ∷ b ∷ b' ∷ []) e = refl
one_16 [] e = absurd (omega (arith, e))
one_16 (a ∷ []) e = absurd (omega (arith, e))
one_16 (a ∷ a' ∷ []) e = absurd (omega (arith, e))
one_16 (a ∷ a' ∷ r ∷ []) e = absurd (omega (arith, e))
one_16 (a ∷ a' ∷ r ∷ r' ∷ []) e = absurd (omega (arith, e))
one_16 (a ∷ a' ∷ r ∷ r' ∷ g ∷ []) e = absurd (omega (arith, e))
one_16 (a ∷ a' ∷ r ∷ r' ∷ g ∷ g' ∷ []) e = absurd (omega (arith, e))
one_16 (a ∷ a' ∷ r ∷ r' ∷ g ∷ g' ∷ b ∷ []) e = absurd (omega (arith, e))
one_16 (a ∷ a' ∷ r ∷ r' ∷ g ∷ g' ∷ b ∷ b' ∷ x ∷ rest) e = absurd (omega (arith, e))

-- the one pixel is premultiplied
pub one_premultiplied : (most m : ℕ) (p : Argb) (pixels : List Argb) → m ≡ most → pixels ≡ p ∷ [] → All (IsPremultiplied most) pixels → IsPremultiplied m p
one_premultiplied most m p pixels same e fits =
    subst (λ (n : ℕ). IsPremultiplied n p) (sym same) ((subst (All (IsPremultiplied most)) e fits) 0 p (omega arith))

-- ---- rows

-- a fact of both depths
pub of_depths : (P : ℕ → Type 0) → P 255 → P 32768 → (most : ℕ) → IsDepth most → P most
of_depths P eight sixteen most (inl e) = subst P (sym e) eight
of_depths P eight sixteen most (inr e) = subst P (sym e) sixteen

append_8 : (xs ys : List ℕ) → length xs ≡ 4 * length (pixels_of_8 xs) → pixels_of_8 (xs ++ ys) ≡ pixels_of_8 xs ++ pixels_of_8 ys
append_8 [] ys e = refl
append_8 (a ∷ []) ys e = absurd (omega (arith, e))
append_8 (a ∷ r ∷ []) ys e = absurd (omega (arith, e))
append_8 (a ∷ r ∷ g ∷ []) ys e = absurd (omega (arith, e))
append_8 (a ∷ r ∷ g ∷ b ∷ rest) ys e = ap (λ t. record { a = a; r = r; g = g; b = b } ∷ t) (append_8 rest ys (omega (arith, e)))

append_16 : (xs ys : List ℕ) → length xs ≡ 8 * length (pixels_of_16 xs) → pixels_of_16 (xs ++ ys) ≡ pixels_of_16 xs ++ pixels_of_16 ys
append_16 [] ys e = refl
append_16 (a ∷ []) ys e = absurd (omega (arith, e))
append_16 (a ∷ a' ∷ []) ys e = absurd (omega (arith, e))
append_16 (a ∷ a' ∷ r ∷ []) ys e = absurd (omega (arith, e))
append_16 (a ∷ a' ∷ r ∷ r' ∷ []) ys e = absurd (omega (arith, e))
append_16 (a ∷ a' ∷ r ∷ r' ∷ g ∷ []) ys e = absurd (omega (arith, e))
append_16 (a ∷ a' ∷ r ∷ r' ∷ g ∷ g' ∷ []) ys e = absurd (omega (arith, e))
append_16 (a ∷ a' ∷ r ∷ r' ∷ g ∷ g' ∷ b ∷ []) ys e = absurd (omega (arith, e))
append_16 (a ∷ a' ∷ r ∷ r' ∷ g ∷ g' ∷ b ∷ b' ∷ rest) ys e =
    ap (λ t. record { a = channel_of a a'; r = channel_of r r'; g = channel_of g g'; b = channel_of b b' } ∷ t) (append_16 rest ys (omega (arith, e)))

-- bytes that are whole pixels, and more
pub pixels_append : (most : ℕ) → IsDepth most → (xs ys : List ℕ) → length xs ≡ pixel_size most * length (pixels_of most xs)
    → pixels_of most (xs ++ ys) ≡ pixels_of most xs ++ pixels_of most ys
pixels_append most depth xs ys =
    of_depths (λ m. length xs ≡ pixel_size m * length (pixels_of m xs) → pixels_of m (xs ++ ys) ≡ pixels_of m xs ++ pixels_of m ys)
    (append_8 xs ys) (append_16 xs ys) most depth

-- the pixel that begins a row
pub record Ahead (most : ℕ) (xs : List ℕ) : Type 0 where
  pub pixel : Argb
  pub first : pixels_of most (take (pixel_size most) xs) ≡ pixel ∷ []
  pub all : pixels_of most xs ≡ pixel ∷ pixels_of most (drop (pixel_size most) xs)
  pub fits : IsPremultiplied most pixel
  pub rest : IsPacked most (drop (pixel_size most) xs)
  pub long : pixel_size most ≤ length xs

-- the pixels of a row after its first
later : (most : ℕ) (p : Argb) (ps : List Argb) → All (IsPremultiplied most) (p ∷ ps) → All (IsPremultiplied most) ps
later most p ps h = λ k d lt. h (suc k) d (omega (arith, lt))

ahead_8 : (xs : List ℕ) → IsPacked 255 xs → 0 < length xs → Ahead 255 xs
ahead_8 [] h some = absurd (omega (arith, some))
ahead_8 (a ∷ []) h some = absurd (omega (arith, h.whole))
ahead_8 (a ∷ r ∷ []) h some = absurd (omega (arith, h.whole))
ahead_8 (a ∷ r ∷ g ∷ []) h some = absurd (omega (arith, h.whole))
ahead_8 (a ∷ r ∷ g ∷ b ∷ rest) h some =
    let p : Argb = record { a = a; r = r; g = g; b = b } in
    record {
      pixel = p;
      first = refl;
      all = refl;
      fits = h.premultiplied 0 p (omega arith);
      rest = record { whole = omega (arith, h.whole); premultiplied = later 255 p (pixels_of_8 rest) h.premultiplied };
      long = omega arith;
    }

ahead_16 : (xs : List ℕ) → IsPacked 32768 xs → 0 < length xs → Ahead 32768 xs
ahead_16 [] h some = absurd (omega (arith, some))
ahead_16 (a ∷ []) h some = absurd (omega (arith, h.whole))
ahead_16 (a ∷ a' ∷ []) h some = absurd (omega (arith, h.whole))
ahead_16 (a ∷ a' ∷ r ∷ []) h some = absurd (omega (arith, h.whole))
ahead_16 (a ∷ a' ∷ r ∷ r' ∷ []) h some = absurd (omega (arith, h.whole))
ahead_16 (a ∷ a' ∷ r ∷ r' ∷ g ∷ []) h some = absurd (omega (arith, h.whole))
ahead_16 (a ∷ a' ∷ r ∷ r' ∷ g ∷ g' ∷ []) h some = absurd (omega (arith, h.whole))
ahead_16 (a ∷ a' ∷ r ∷ r' ∷ g ∷ g' ∷ b ∷ []) h some = absurd (omega (arith, h.whole))
ahead_16 (a ∷ a' ∷ r ∷ r' ∷ g ∷ g' ∷ b ∷ b' ∷ rest) h some =
    let p : Argb = record { a = channel_of a a'; r = channel_of r r'; g = channel_of g g'; b = channel_of b b' } in
    record {
      pixel = p;
      first = refl;
      all = refl;
      fits = h.premultiplied 0 p (omega arith);
      rest = record { whole = omega (arith, h.whole); premultiplied = later 32768 p (pixels_of_16 rest) h.premultiplied };
      long = omega arith;
    }

pub ahead : (most : ℕ) → IsDepth most → (xs : List ℕ) → IsPacked most xs → 0 < length xs → Ahead most xs
ahead most depth xs = of_depths (λ m. IsPacked m xs → 0 < length xs → Ahead m xs) (ahead_8 xs) (ahead_16 xs) most depth

-- the bytes of a pixel
pub length-packed : (most : ℕ) (p : Argb) → IsDepth most → length (packed most p) ≡ pixel_size most
length-packed most p depth = of_depths (λ m. length (packed m p) ≡ pixel_size m) refl refl most depth

-- so many bytes are one pixel
pub one_packed : (most : ℕ) (p : Argb) (xs : List ℕ) → length xs ≡ pixel_size most → pixels_of most xs ≡ p ∷ [] → IsPremultiplied most p → IsPacked most xs
one_packed most p xs long e fits = record {
  whole = long ∙ (let once : pixel_size most ≡ pixel_size most * 1 = omega arith in once) ∙ ap (λ k. pixel_size most * k) (sym (ap length e));
  premultiplied = subst (All (IsPremultiplied most)) (sym e) (only most p fits);
}
  where
    only : (most : ℕ) (p : Argb) → IsPremultiplied most p → All (IsPremultiplied most) (p ∷ [])
    only most p fits zero d lt = fits
    only most p fits (suc k) d lt = absurd (omega (arith, lt))

pub pixel_size_pos : (most : ℕ) → IsDepth most → 0 < pixel_size most
pixel_size_pos most depth = of_depths (λ m. 0 < pixel_size m) (omega arith) (omega arith) most depth
