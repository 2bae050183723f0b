-- A pixel of a clip, by its place among the pixels.
use Rattle.std.specs.List.{All}
use Rattle.std.proofs.Common.{◌≡◌, ℕ, zero, suc, ◌+◌, ◌-◌, ◌*◌, ◌<◌, ◌≤◌, ◌≢◌, ◌⊎◌, inl, inr, List, [], ◌∷◌, length, take, drop, get_or, None, refl, sym, ap, subst, ◌∙◌, arith, length-drop}
use Rattle.std.proofs.Math.Nat.{mul-le-mul_left}
use Rattle.argb_pixel.specs.Pixel.{Argb, IsPremultiplied, clear}
use Rattle.project_model.specs.Bounds.{most_of, header_length}
use Rattle.project_model.specs.Clip.{pixel_size}
use Rattle.frame_file.specs.Clip.{pixels_of, pixels_of_8, pixels_of_16, head_of_8, head_of_16, first_bad, in_depth}
use Rattle.frame_file.proofs.Scan.{next_8, next_16, from_8, from_16, found_at, sound_at, rest_is}

-- a point of a picture is a pixel of the clip
pub place_within : (picture frames w h x y : ℕ) → picture < frames → x < w → y < h → (picture * h + y) * w + x < frames * (w * h)
place_within picture frames w h x y p c r =
    let more : picture + 1 ≤ frames = omega arith in
    let rows : picture * h + y + 1 ≤ frames * h = omega (arith, mul-le-mul_left h more) in
    let all : w * (picture * h + y + 1) ≤ w * (frames * h) = mul-le-mul_left w rows in
    omega (arith, all)

-- so many points from one to the right are pixels of the clip
pub span_within : (picture frames w h x y n : ℕ) → picture < frames → y < h → x + n ≤ w → (picture * h + y) * w + x + n ≤ frames * (w * h)
span_within picture frames w h x y n p r c =
    let more : picture + 1 ≤ frames = omega arith in
    let rows : picture * h + y + 1 ≤ frames * h = omega (arith, mul-le-mul_left h more) in
    let all : w * (picture * h + y + 1) ≤ w * (frames * h) = mul-le-mul_left w rows in
    omega (arith, all)

-- the bytes from a place on, as a slice of all
abbrev pub behind : ℕ → List ℕ → List ℕ
behind n xs = take (length xs - n) (drop n xs)

behind_is : (n : ℕ) (xs ys : List ℕ) → ys ≡ xs → behind n (behind header_length ys) ≡ drop n (drop header_length xs)
behind_is n xs ys e = rest_is n (behind header_length ys) ∙ ap (drop n) (rest_is header_length ys) ∙ ap (λ zs. drop n (drop header_length zs)) e

at_8 : (bytes : List ℕ) (p : ℕ) → p * 4 + 4 ≤ length bytes → drop p (pixels_of_8 bytes) ≡ head_of_8 (drop (p * 4) bytes) ∷ pixels_of_8 (drop 4 (drop (p * 4) bytes))
at_8 bytes p h = from_8 p bytes ∙ next_8 (drop (p * 4) bytes) (omega (arith, length-drop (p * 4) bytes))

at_16 : (bytes : List ℕ) (p : ℕ) → p * 8 + 8 ≤ length bytes → drop p (pixels_of_16 bytes) ≡ head_of_16 (drop (p * 8) bytes) ∷ pixels_of_16 (drop 8 (drop (p * 8) bytes))
at_16 bytes p h = from_16 p bytes ∙ next_16 (drop (p * 8) bytes) (omega (arith, length-drop (p * 8) bytes))

-- a clip's bytes, and a place of a pixel in them
pub record HasPixel (xs : List ℕ) (depth p : ℕ) : Type 0 where
  pub sound : first_bad (most_of depth) (pixels_of depth (drop header_length xs)) ≡ None
  pub count : ℕ
  pub within : p < count
  pub long : length xs ≡ header_length + count * pixel_size depth

room : (xs : List ℕ) (size p count : ℕ) → p < count → length xs ≡ 29 + count * size → p * size + size ≤ length (drop header_length xs)
room xs size p count h l =
    let more : p + 1 ≤ count = omega arith in
    omega (arith, length-drop 29 xs, mul-le-mul_left size more)

-- of 8 bits
sound_of_8 : (xs : List ℕ) (depth p : ℕ) → depth ≡ 8 → HasPixel xs depth p → first_bad 255 (pixels_of_8 (drop header_length xs)) ≡ None
sound_of_8 xs depth p e h =
    let P : ℕ → Type 0 = λ n. first_bad (most_of n) (pixels_of n (drop header_length xs)) ≡ None in subst P e h.sound

room_of_8 : (xs : List ℕ) (depth p : ℕ) → depth ≡ 8 → HasPixel xs depth p → p * 4 + 4 ≤ length (drop header_length xs)
room_of_8 xs depth p e h = room xs 4 p h.count h.within (h.long ∙ ap (λ n. header_length + h.count * pixel_size n) e)

pub premultiplied_8 : (xs ys : List ℕ) (depth p : ℕ) → depth ≡ 8 → ys ≡ xs → HasPixel xs depth p → IsPremultiplied 255 (head_of_8 (behind (p * 4) (behind header_length ys)))
premultiplied_8 xs ys depth p e s h =
    let P : List ℕ → Type 0 = λ zs. IsPremultiplied 255 (head_of_8 zs) in
    subst P (sym (behind_is (p * 4) xs ys s))
    (sound_at 255 p _ _ _ (sound_of_8 xs depth p e h) (at_8 (drop header_length xs) p (room_of_8 xs depth p e h)))

pub shown_8 : (most : ℕ) (xs ys : List ℕ) (depth p q : ℕ) (pixel result : Argb) → depth ≡ 8 → ys ≡ xs → p ≡ q → HasPixel xs depth p → pixel ≡ head_of_8 (behind (p * 4) (behind header_length ys)) → result ≡ in_depth 255 most pixel → result ≡ in_depth (most_of depth) most (get_or (pixels_of depth (drop header_length xs)) q clear)
shown_8 most xs ys depth p q pixel result e s same h is made =
    let bytes : List ℕ = drop header_length xs in
    let found : get_or (pixels_of_8 bytes) p clear ≡ head_of_8 (drop (p * 4) bytes) = found_at p _ _ _ (at_8 bytes p (room_of_8 xs depth p e h)) in
    made
    ∙ ap (in_depth 255 most) (is ∙ ap head_of_8 (behind_is (p * 4) xs ys s) ∙ sym found ∙ ap (λ k. get_or (pixels_of_8 bytes) k clear) same)
    ∙ ap (λ n. in_depth (most_of n) most (get_or (pixels_of n bytes) q clear)) (sym e)

-- of 16 bits
sound_of_16 : (xs : List ℕ) (depth p : ℕ) → depth ≡ 16 → HasPixel xs depth p → first_bad 32768 (pixels_of_16 (drop header_length xs)) ≡ None
sound_of_16 xs depth p e h =
    let P : ℕ → Type 0 = λ n. first_bad (most_of n) (pixels_of n (drop header_length xs)) ≡ None in subst P e h.sound

room_of_16 : (xs : List ℕ) (depth p : ℕ) → depth ≡ 16 → HasPixel xs depth p → p * 8 + 8 ≤ length (drop header_length xs)
room_of_16 xs depth p e h = room xs 8 p h.count h.within (h.long ∙ ap (λ n. header_length + h.count * pixel_size n) e)

pub premultiplied_16 : (xs ys : List ℕ) (depth p : ℕ) → depth ≡ 16 → ys ≡ xs → HasPixel xs depth p → IsPremultiplied 32768 (head_of_16 (behind (p * 8) (behind header_length ys)))
premultiplied_16 xs ys depth p e s h =
    let P : List ℕ → Type 0 = λ zs. IsPremultiplied 32768 (head_of_16 zs) in
    subst P (sym (behind_is (p * 8) xs ys s))
    (sound_at 32768 p _ _ _ (sound_of_16 xs depth p e h) (at_16 (drop header_length xs) p (room_of_16 xs depth p e h)))

pub shown_16 : (most : ℕ) (xs ys : List ℕ) (depth p q : ℕ) (pixel result : Argb) → depth ≡ 16 → ys ≡ xs → p ≡ q → HasPixel xs depth p → pixel ≡ head_of_16 (behind (p * 8) (behind header_length ys)) → result ≡ in_depth 32768 most pixel → result ≡ in_depth (most_of depth) most (get_or (pixels_of depth (drop header_length xs)) q clear)
shown_16 most xs ys depth p q pixel result e s same h is made =
    let bytes : List ℕ = drop header_length xs in
    let found : get_or (pixels_of_16 bytes) p clear ≡ head_of_16 (drop (p * 8) bytes) = found_at p _ _ _ (at_16 bytes p (room_of_16 xs depth p e h)) in
    made
    ∙ ap (in_depth 32768 most) (is ∙ ap head_of_16 (behind_is (p * 8) xs ys s) ∙ sym found ∙ ap (λ k. get_or (pixels_of_16 bytes) k clear) same)
    ∙ ap (λ n. in_depth (most_of n) most (get_or (pixels_of n bytes) q clear)) (sym e)

-- a depth that is not 8
pub else_16 : (depth : ℕ) → (depth ≡ 8) ⊎ (depth ≡ 16) → depth ≢ 8 → depth ≡ 16
else_16 depth (inl e) n = absurd (n e)
else_16 depth (inr e) n = e

-- a pixel of 8 bits behind the header, at a place among all
pub sound_in_8 : (pixels : List ℕ) (n : ℕ) → n * 4 + 4 ≤ length pixels → first_bad 255 (pixels_of_8 pixels) ≡ None → IsPremultiplied 255 (head_of_8 (take (length pixels - n * 4) (drop (n * 4) pixels)))
sound_in_8 pixels n room sound =
    let P : List ℕ → Type 0 = λ zs. IsPremultiplied 255 (head_of_8 zs) in
    subst P (sym (rest_is (n * 4) pixels)) (sound_at 255 n _ _ _ sound (at_8 pixels n room))

pub read_at_8 : (most : ℕ) (pixels : List ℕ) (n : ℕ) (pixel result : Argb) → n * 4 + 4 ≤ length pixels → pixel ≡ head_of_8 (take (length pixels - n * 4) (drop (n * 4) pixels)) → result ≡ in_depth 255 most pixel → result ≡ in_depth 255 most (get_or (pixels_of_8 pixels) n clear)
read_at_8 most pixels n pixel result room is made =
    made ∙ ap (in_depth 255 most) (is ∙ ap head_of_8 (rest_is (n * 4) pixels) ∙ sym (found_at n _ _ _ (at_8 pixels n room)))

-- the bytes behind the header, as a slice of all
pub row_room_8 : (xs ys : List ℕ) (depth picture frames w h x y start long : ℕ) → depth ≡ 8 → ys ≡ xs → picture < frames → y < h → x + long ≤ w → start ≡ (picture * h + y) * w + x
    → length xs ≡ header_length + frames * (w * h) * pixel_size depth → (start + long) * 4 ≤ length (behind header_length ys)
row_room_8 xs ys depth picture frames w h x y start long e s p r c is all =
    let within = span_within picture frames w h x y long p r c in
    let count : length xs ≡ 29 + frames * (w * h) * 4 = all ∙ ap (λ k. header_length + frames * (w * h) * pixel_size k) e in
    let here : length (behind header_length ys) ≡ length xs - 29 = ap length (rest_is header_length ys ∙ ap (drop header_length) s) ∙ length-drop 29 xs in
    omega (arith, within, count, here, is)

pub row_sound_8 : (xs ys : List ℕ) (depth : ℕ) → depth ≡ 8 → ys ≡ xs → first_bad (most_of depth) (pixels_of depth (drop header_length xs)) ≡ None → first_bad 255 (pixels_of_8 (behind header_length ys)) ≡ None
row_sound_8 xs ys depth e s sound =
    let P : ℕ → Type 0 = λ k. first_bad (most_of k) (pixels_of k (drop header_length xs)) ≡ None in
    ap (λ zs. first_bad 255 (pixels_of_8 zs)) (rest_is header_length ys ∙ ap (drop header_length) s) ∙ subst P e sound

pub row_read_8 : (most : ℕ) (xs ys : List ℕ) (depth n q : ℕ) (pixel : Argb) → depth ≡ 8 → ys ≡ xs → n ≡ q → pixel ≡ in_depth 255 most (get_or (pixels_of_8 (behind header_length ys)) n clear) → pixel ≡ in_depth (most_of depth) most (get_or (pixels_of depth (drop header_length xs)) q clear)
row_read_8 most xs ys depth n q pixel e s same is =
    is
    ∙ ap (λ zs. in_depth 255 most (get_or (pixels_of_8 zs) n clear)) (rest_is header_length ys ∙ ap (drop header_length) s)
    ∙ ap (λ k. in_depth 255 most (get_or (pixels_of_8 (drop header_length xs)) k clear)) same
    ∙ ap (λ k. in_depth (most_of k) most (get_or (pixels_of k (drop header_length xs)) q clear)) (sym e)

-- a pixel of 16 bits behind the header, at a place among all
pub sound_in_16 : (pixels : List ℕ) (n : ℕ) → n * 8 + 8 ≤ length pixels → first_bad 32768 (pixels_of_16 pixels) ≡ None → IsPremultiplied 32768 (head_of_16 (take (length pixels - n * 8) (drop (n * 8) pixels)))
sound_in_16 pixels n room sound =
    let P : List ℕ → Type 0 = λ zs. IsPremultiplied 32768 (head_of_16 zs) in
    subst P (sym (rest_is (n * 8) pixels)) (sound_at 32768 n _ _ _ sound (at_16 pixels n room))

pub read_at_16 : (most : ℕ) (pixels : List ℕ) (n : ℕ) (pixel result : Argb) → n * 8 + 8 ≤ length pixels → pixel ≡ head_of_16 (take (length pixels - n * 8) (drop (n * 8) pixels)) → result ≡ in_depth 32768 most pixel → result ≡ in_depth 32768 most (get_or (pixels_of_16 pixels) n clear)
read_at_16 most pixels n pixel result room is made =
    made ∙ ap (in_depth 32768 most) (is ∙ ap head_of_16 (rest_is (n * 8) pixels) ∙ sym (found_at n _ _ _ (at_16 pixels n room)))

-- the bytes behind the header, as a slice of all
pub row_room_16 : (xs ys : List ℕ) (depth picture frames w h x y start long : ℕ) → depth ≡ 16 → ys ≡ xs → picture < frames → y < h → x + long ≤ w → start ≡ (picture * h + y) * w + x
    → length xs ≡ header_length + frames * (w * h) * pixel_size depth → (start + long) * 8 ≤ length (behind header_length ys)
row_room_16 xs ys depth picture frames w h x y start long e s p r c is all =
    let within = span_within picture frames w h x y long p r c in
    let count : length xs ≡ 29 + frames * (w * h) * 8 = all ∙ ap (λ k. header_length + frames * (w * h) * pixel_size k) e in
    let here : length (behind header_length ys) ≡ length xs - 29 = ap length (rest_is header_length ys ∙ ap (drop header_length) s) ∙ length-drop 29 xs in
    omega (arith, within, count, here, is)

pub row_sound_16 : (xs ys : List ℕ) (depth : ℕ) → depth ≡ 16 → ys ≡ xs → first_bad (most_of depth) (pixels_of depth (drop header_length xs)) ≡ None → first_bad 32768 (pixels_of_16 (behind header_length ys)) ≡ None
row_sound_16 xs ys depth e s sound =
    let P : ℕ → Type 0 = λ k. first_bad (most_of k) (pixels_of k (drop header_length xs)) ≡ None in
    ap (λ zs. first_bad 32768 (pixels_of_16 zs)) (rest_is header_length ys ∙ ap (drop header_length) s) ∙ subst P e sound

pub row_read_16 : (most : ℕ) (xs ys : List ℕ) (depth n q : ℕ) (pixel : Argb) → depth ≡ 16 → ys ≡ xs → n ≡ q → pixel ≡ in_depth 32768 most (get_or (pixels_of_16 (behind header_length ys)) n clear) → pixel ≡ in_depth (most_of depth) most (get_or (pixels_of depth (drop header_length xs)) q clear)
row_read_16 most xs ys depth n q pixel e s same is =
    is
    ∙ ap (λ zs. in_depth 32768 most (get_or (pixels_of_16 zs) n clear)) (rest_is header_length ys ∙ ap (drop header_length) s)
    ∙ ap (λ k. in_depth 32768 most (get_or (pixels_of_16 (drop header_length xs)) k clear)) same
    ∙ ap (λ k. in_depth (most_of k) most (get_or (pixels_of k (drop header_length xs)) q clear)) (sym e)

-- ---- all pixels

drop_at : {A : Type 0} (xs : List A) (k : ℕ) (d : A) → k < length xs → drop k xs ≡ get_or xs k d ∷ drop (suc k) xs
drop_at [] k d within = absurd (omega (arith, within))
drop_at (x ∷ xs) zero d within = refl
drop_at (x ∷ xs) (suc k) d within = drop_at xs k d (omega (arith, within))

pub all_sound : (most : ℕ) (pixels : List Argb) → first_bad most pixels ≡ None → All (IsPremultiplied most) pixels
all_sound most pixels sound = λ k d within. sound_at most k pixels (get_or pixels k d) (drop (suc k) pixels) sound (drop_at pixels k d within)
