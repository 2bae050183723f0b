-- Pixels written as bytes and read again.
use Rattle.std.proofs.Common.{◌≡◌, ℕ, suc, ◌+◌, ◌*◌, ◌<◌, ◌⊎◌, inl, inr, false, cond, List, [], ◌∷◌, length, get_or, Some, None, refl, sym, ap, subst, ◌∙◌, arith}
use Rattle.std.specs.Prelude.{flat_map}
use Rattle.std.specs.Int.{w16, to_be_bytes}
use Rattle.std.specs.List.{All, position_from}
use Rattle.std.proofs.lemmas.Bool.Decides.{nat_tests}
use Rattle.argb_pixel.specs.Pixel.{Argb, IsPremultiplied}
use Rattle.project_model.specs.Bounds.{most_of}
use Rattle.frame_file.specs.Afr.{pixel_bytes}
use Rattle.project_model.specs.Clip.{pixel_size}
use Rattle.frame_file.specs.Clip.{pixels_of, pixels_of_8, pixels_of_16, channel_of, is_bad, first_bad}

-- two bytes of a channel
channel_back : (c : ℕ) → c < 65536 → channel_of (get_or (to_be_bytes w16 c) 0 0) (get_or (to_be_bytes w16 c) 1 0) ≡ c
channel_back c h = omega arith

pub channel_split : (high low : ℕ) → high < 256 → low < 256 → to_be_bytes w16 (channel_of high low) ≡ high ∷ low ∷ []
channel_split high low h l =
    let top : get_or (to_be_bytes w16 (channel_of high low)) 0 0 ≡ high = omega arith in
    let bottom : get_or (to_be_bytes w16 (channel_of high low)) 1 0 ≡ low = omega arith in
    ap (λ x. x ∷ get_or (to_be_bytes w16 (channel_of high low)) 1 0 ∷ []) top ∙ ap (λ x. high ∷ x ∷ []) bottom

-- the pixels of the bytes of pixels
unpixel_8 : (pixels : List Argb) → pixels_of_8 (flat_map (pixel_bytes 8) pixels) ≡ pixels
unpixel_8 [] = refl
unpixel_8 (p ∷ pixels) = ap (λ ps. p ∷ ps) (unpixel_8 pixels)

-- each channel fits two bytes
record Fits16 (p : Argb) : Type 0 where
  a : p.a < 65536
  r : p.r < 65536
  g : p.g < 65536
  b : p.b < 65536

fits_16 : (p : Argb) → IsPremultiplied 32768 p → Fits16 p
fits_16 p h = record { a = omega arith; r = omega arith; g = omega arith; b = omega arith }

pixel_back : (p : Argb) → Fits16 p → record {
  a = channel_of (get_or (to_be_bytes w16 p.a) 0 0) (get_or (to_be_bytes w16 p.a) 1 0);
  r = channel_of (get_or (to_be_bytes w16 p.r) 0 0) (get_or (to_be_bytes w16 p.r) 1 0);
  g = channel_of (get_or (to_be_bytes w16 p.g) 0 0) (get_or (to_be_bytes w16 p.g) 1 0);
  b = channel_of (get_or (to_be_bytes w16 p.b) 0 0) (get_or (to_be_bytes w16 p.b) 1 0);
} ≡ p
pixel_back p f = pixel_is (channel_back p.a f.a) (channel_back p.r f.r) (channel_back p.g f.g) (channel_back p.b f.b)
  where
    pixel_is : {a r g b : ℕ} → a ≡ p.a → r ≡ p.r → g ≡ p.g → b ≡ p.b → record { a = a; r = r; g = g; b = b } ≡ p
    pixel_is {a} {r} {g} {b} ea er eg eb =
        let A : ℕ → Argb = λ x. record { a = x; r = r; g = g; b = b } in
        let R : ℕ → Argb = λ x. record { a = p.a; r = x; g = g; b = b } in
        let G : ℕ → Argb = λ x. record { a = p.a; r = p.r; g = x; b = b } in
        let B : ℕ → Argb = λ x. record { a = p.a; r = p.r; g = p.g; b = x } in
        ap A ea ∙ ap R er ∙ ap G eg ∙ ap B eb

abbrev AllFit : List Argb → Type 0
AllFit [] = Unit {0}
AllFit (p ∷ pixels) = Fits16 p × AllFit pixels

unpixel_16 : (pixels : List Argb) → AllFit pixels → pixels_of_16 (flat_map (pixel_bytes 16) pixels) ≡ pixels
unpixel_16 [] f = refl
unpixel_16 (p ∷ pixels) f =
    ap (λ q. q ∷ pixels_of_16 (flat_map (pixel_bytes 16) pixels)) (pixel_back p f.0) ∙ ap (λ ps. p ∷ ps) (unpixel_16 pixels f.1)

-- what holds of each pixel, one by one
tail_of : (P : Argb → Type 0) (p : Argb) (pixels : List Argb) → All P (p ∷ pixels) → All P pixels
tail_of P p pixels h = λ k d l. h (suc k) d (omega arith)

head_of : (P : Argb → Type 0) (p : Argb) (pixels : List Argb) → All P (p ∷ pixels) → P p
head_of P p pixels h = h 0 p (omega arith)

all_fit : (pixels : List Argb) → All (IsPremultiplied 32768) pixels → AllFit pixels
all_fit [] h = tt
all_fit (p ∷ pixels) h =
    (fits_16 p (head_of (IsPremultiplied 32768) p pixels h), all_fit pixels (tail_of (IsPremultiplied 32768) p pixels h))

is_good : (most : ℕ) (p : Argb) → IsPremultiplied most p → is_bad most p ≡ false
is_good most p h = grind (arith, nat_tests)

no_bad : (most i : ℕ) (pixels : List Argb) → All (IsPremultiplied most) pixels → position_from (is_bad most) i pixels ≡ None
no_bad most i [] h = refl
no_bad most i (p ∷ pixels) h =
    let good : is_bad most p ≡ false = is_good most p (head_of (IsPremultiplied most) p pixels h) in
    ap (λ b. cond b (Some i) (position_from (is_bad most) (i + 1) pixels)) good
    ∙ no_bad most (i + 1) pixels (tail_of (IsPremultiplied most) p pixels h)

-- how many bytes pixels have
length_8 : (pixels : List Argb) → length (flat_map (pixel_bytes 8) pixels) ≡ length pixels * 4
length_8 [] = refl
length_8 (p ∷ pixels) = omega (arith, length_8 pixels)

length_16 : (pixels : List Argb) → length (flat_map (pixel_bytes 16) pixels) ≡ length pixels * 8
length_16 [] = refl
length_16 (p ∷ pixels) = omega (arith, length_16 pixels)

pub length_of : (depth : ℕ) (pixels : List Argb) → (depth ≡ 8) ⊎ (depth ≡ 16) → length (flat_map (pixel_bytes depth) pixels) ≡ length pixels * pixel_size depth
length_of depth pixels (inl e) =
    let P : ℕ → Type 0 = λ n. length (flat_map (pixel_bytes n) pixels) ≡ length pixels * pixel_size n in subst P (sym e) (length_8 pixels)
length_of depth pixels (inr e) =
    let P : ℕ → Type 0 = λ n. length (flat_map (pixel_bytes n) pixels) ≡ length pixels * pixel_size n in subst P (sym e) (length_16 pixels)

pub unpixel : (depth : ℕ) (pixels : List Argb) → (depth ≡ 8) ⊎ (depth ≡ 16) → All (IsPremultiplied (most_of depth)) pixels → pixels_of depth (flat_map (pixel_bytes depth) pixels) ≡ pixels
unpixel depth pixels (inl e) h =
    let P : ℕ → Type 0 = λ n. pixels_of n (flat_map (pixel_bytes n) pixels) ≡ pixels in subst P (sym e) (unpixel_8 pixels)
unpixel depth pixels (inr e) h =
    let P : ℕ → Type 0 = λ n. pixels_of n (flat_map (pixel_bytes n) pixels) ≡ pixels in
    let H : ℕ → Type 0 = λ n. All (IsPremultiplied (most_of n)) pixels in
    subst P (sym e) (unpixel_16 pixels (all_fit pixels (subst H e h)))

pub none_bad : (most : ℕ) (pixels : List Argb) → All (IsPremultiplied most) pixels → first_bad most pixels ≡ None
none_bad most pixels h = no_bad most 0 pixels h
