-- The pixels of bytes: of a part of them, of a part that is written over, and of bytes one after another.
use Rattle.std.proofs.Common.{◌≡◌, ℕ, zero, suc, ◌+◌, ◌*◌, ◌-◌, ◌<◌, ◌≤◌, List, [], ◌∷◌, ◌++◌, All, length, take, drop, replicate, get_or, inl, inr, refl, ap, ap₂, sym, subst, ◌∙◌, arith, length-append, length-take, length-drop}
use Rattle.std.specs.List.{between}
use Rattle.std.proofs.lemmas.Slice.{between_is}
use Rattle.std.proofs.lemmas.List.Elements.{All-append, All-take, All-drop, All-replicate}
use Rattle.std.proofs.Math.Nat.{mul-le-mul_left}
use borrow.Rule.Slice.PartMut.{put_mid}
use Rattle.argb_pixel.specs.Depth.{IsDepth}
use Rattle.argb_pixel.specs.Pixel.{Argb, IsPremultiplied, clear}
use Rattle.argb_pixel.specs.Packed.{pixel_size, pixels_of, pixels_of_8, pixels_of_16, channel_of, IsPacked}
use Rattle.argb_pixel.proofs.Channels.{clear_premultiplied}

-- ---- four bytes a pixel

four_more : (s : ℕ) → 4 * suc s ≡ suc (suc (suc (suc (4 * s))))
four_more s = omega arith

take_8 : (s : ℕ) (bs : List ℕ) → pixels_of_8 (take (4 * s) bs) ≡ take s (pixels_of_8 bs)
take_8 zero bs = refl
take_8 (suc s) [] = ap (λ n. pixels_of_8 (take n [])) (four_more s)
take_8 (suc s) (a ∷ []) = ap (λ n. pixels_of_8 (take n (a ∷ []))) (four_more s)
take_8 (suc s) (a ∷ r ∷ []) = ap (λ n. pixels_of_8 (take n (a ∷ r ∷ []))) (four_more s)
take_8 (suc s) (a ∷ r ∷ g ∷ []) = ap (λ n. pixels_of_8 (take n (a ∷ r ∷ g ∷ []))) (four_more s)
take_8 (suc s) (a ∷ r ∷ g ∷ b ∷ rest) =
    ap (λ n. pixels_of_8 (take n (a ∷ r ∷ g ∷ b ∷ rest))) (four_more s)
    ∙ ap (λ (t : List Argb). record { a = a; r = r; g = g; b = b } ∷ t) (take_8 s rest)

drop_8 : (s : ℕ) (bs : List ℕ) → pixels_of_8 (drop (4 * s) bs) ≡ drop s (pixels_of_8 bs)
drop_8 zero bs = refl
drop_8 (suc s) [] = ap (λ n. pixels_of_8 (drop n [])) (four_more s)
drop_8 (suc s) (a ∷ []) = ap (λ n. pixels_of_8 (drop n (a ∷ []))) (four_more s)
drop_8 (suc s) (a ∷ r ∷ []) = ap (λ n. pixels_of_8 (drop n (a ∷ r ∷ []))) (four_more s)
drop_8 (suc s) (a ∷ r ∷ g ∷ []) = ap (λ n. pixels_of_8 (drop n (a ∷ r ∷ g ∷ []))) (four_more s)
drop_8 (suc s) (a ∷ r ∷ g ∷ b ∷ rest) =
    ap (λ n. pixels_of_8 (drop n (a ∷ r ∷ g ∷ b ∷ rest))) (four_more s) ∙ drop_8 s rest

append_8 : (xs ys : List ℕ) → length xs ≡ 4 * length (pixels_of_8 xs) → pixels_of_8 (xs ++ ys) ≡ pixels_of_8 xs ++ pixels_of_8 ys
append_8 [] ys e = refl
append_8 (a ∷ []) ys e = absurd (omega (arith, e))
append_8 (a ∷ r ∷ []) ys e = absurd (omega (arith, e))
append_8 (a ∷ r ∷ g ∷ []) ys e = absurd (omega (arith, e))
append_8 (a ∷ r ∷ g ∷ b ∷ rest) ys e =
    ap (λ (t : List Argb). record { a = a; r = r; g = g; b = b } ∷ t) (append_8 rest ys (omega (arith, e)))

length_8 : (n : ℕ) (xs : List ℕ) → length xs ≡ 4 * n → length (pixels_of_8 xs) ≡ n
length_8 zero [] e = refl
length_8 zero (a ∷ rest) e = absurd (omega (arith, e))
length_8 (suc n) [] e = absurd (omega (arith, e))
length_8 (suc n) (a ∷ []) e = absurd (omega (arith, e))
length_8 (suc n) (a ∷ r ∷ []) e = absurd (omega (arith, e))
length_8 (suc n) (a ∷ r ∷ g ∷ []) e = absurd (omega (arith, e))
length_8 (suc n) (a ∷ r ∷ g ∷ b ∷ rest) e = ap suc (length_8 n rest (omega (arith, e)))

-- ---- eight bytes a pixel

eight_more : (s : ℕ) → 8 * suc s ≡ suc (suc (suc (suc (suc (suc (suc (suc (8 * s))))))))
eight_more s = omega arith

take_16 : (s : ℕ) (bs : List ℕ) → pixels_of_16 (take (8 * s) bs) ≡ take s (pixels_of_16 bs)
take_16 zero bs = refl
take_16 (suc s) [] = ap (λ n. pixels_of_16 (take n [])) (eight_more s)
take_16 (suc s) (a ∷ []) = ap (λ n. pixels_of_16 (take n (a ∷ []))) (eight_more s)
take_16 (suc s) (a ∷ b ∷ []) = ap (λ n. pixels_of_16 (take n (a ∷ b ∷ []))) (eight_more s)
take_16 (suc s) (a ∷ b ∷ c ∷ []) = ap (λ n. pixels_of_16 (take n (a ∷ b ∷ c ∷ []))) (eight_more s)
take_16 (suc s) (a ∷ b ∷ c ∷ d ∷ []) = ap (λ n. pixels_of_16 (take n (a ∷ b ∷ c ∷ d ∷ []))) (eight_more s)
take_16 (suc s) (a ∷ b ∷ c ∷ d ∷ e ∷ []) = ap (λ n. pixels_of_16 (take n (a ∷ b ∷ c ∷ d ∷ e ∷ []))) (eight_more s)
take_16 (suc s) (a ∷ b ∷ c ∷ d ∷ e ∷ f ∷ []) = ap (λ n. pixels_of_16 (take n (a ∷ b ∷ c ∷ d ∷ e ∷ f ∷ []))) (eight_more s)
take_16 (suc s) (a ∷ b ∷ c ∷ d ∷ e ∷ f ∷ g ∷ []) = ap (λ n. pixels_of_16 (take n (a ∷ b ∷ c ∷ d ∷ e ∷ f ∷ g ∷ []))) (eight_more s)
take_16 (suc s) (a ∷ a' ∷ r ∷ r' ∷ g ∷ g' ∷ b ∷ b' ∷ rest) =
    ap (λ n. pixels_of_16 (take n (a ∷ a' ∷ r ∷ r' ∷ g ∷ g' ∷ b ∷ b' ∷ rest))) (eight_more s)
    ∙ ap (λ (t : List Argb). record { a = channel_of a a'; r = channel_of r r'; g = channel_of g g'; b = channel_of b b' } ∷ t) (take_16 s rest)

drop_16 : (s : ℕ) (bs : List ℕ) → pixels_of_16 (drop (8 * s) bs) ≡ drop s (pixels_of_16 bs)
drop_16 zero bs = refl
drop_16 (suc s) [] = ap (λ n. pixels_of_16 (drop n [])) (eight_more s)
drop_16 (suc s) (a ∷ []) = ap (λ n. pixels_of_16 (drop n (a ∷ []))) (eight_more s)
drop_16 (suc s) (a ∷ b ∷ []) = ap (λ n. pixels_of_16 (drop n (a ∷ b ∷ []))) (eight_more s)
drop_16 (suc s) (a ∷ b ∷ c ∷ []) = ap (λ n. pixels_of_16 (drop n (a ∷ b ∷ c ∷ []))) (eight_more s)
drop_16 (suc s) (a ∷ b ∷ c ∷ d ∷ []) = ap (λ n. pixels_of_16 (drop n (a ∷ b ∷ c ∷ d ∷ []))) (eight_more s)
drop_16 (suc s) (a ∷ b ∷ c ∷ d ∷ e ∷ []) = ap (λ n. pixels_of_16 (drop n (a ∷ b ∷ c ∷ d ∷ e ∷ []))) (eight_more s)
drop_16 (suc s) (a ∷ b ∷ c ∷ d ∷ e ∷ f ∷ []) = ap (λ n. pixels_of_16 (drop n (a ∷ b ∷ c ∷ d ∷ e ∷ f ∷ []))) (eight_more s)
drop_16 (suc s) (a ∷ b ∷ c ∷ d ∷ e ∷ f ∷ g ∷ []) = ap (λ n. pixels_of_16 (drop n (a ∷ b ∷ c ∷ d ∷ e ∷ f ∷ g ∷ []))) (eight_more s)
drop_16 (suc s) (a ∷ a' ∷ r ∷ r' ∷ g ∷ g' ∷ b ∷ b' ∷ rest) =
    ap (λ n. pixels_of_16 (drop n (a ∷ a' ∷ r ∷ r' ∷ g ∷ g' ∷ b ∷ b' ∷ rest))) (eight_more s) ∙ drop_16 s rest

append_16 : (xs ys : List ℕ) → length xs ≡ 8 * length (pixels_of_16 xs) → pixels_of_16 (xs ++ ys) ≡ pixels_of_16 xs ++ pixels_of_16 ys
append_16 [] ys z = refl
append_16 (a ∷ []) ys z = absurd (omega (arith, z))
append_16 (a ∷ b ∷ []) ys z = absurd (omega (arith, z))
append_16 (a ∷ b ∷ c ∷ []) ys z = absurd (omega (arith, z))
append_16 (a ∷ b ∷ c ∷ d ∷ []) ys z = absurd (omega (arith, z))
append_16 (a ∷ b ∷ c ∷ d ∷ e ∷ []) ys z = absurd (omega (arith, z))
append_16 (a ∷ b ∷ c ∷ d ∷ e ∷ f ∷ []) ys z = absurd (omega (arith, z))
append_16 (a ∷ b ∷ c ∷ d ∷ e ∷ f ∷ g ∷ []) ys z = absurd (omega (arith, z))
append_16 (a ∷ a' ∷ r ∷ r' ∷ g ∷ g' ∷ b ∷ b' ∷ rest) ys z =
    ap (λ (t : List Argb). record { a = channel_of a a'; r = channel_of r r'; g = channel_of g g'; b = channel_of b b' } ∷ t) (append_16 rest ys (omega (arith, z)))

length_16 : (n : ℕ) (xs : List ℕ) → length xs ≡ 8 * n → length (pixels_of_16 xs) ≡ n
length_16 zero [] z = refl
length_16 zero (a ∷ rest) z = absurd (omega (arith, z))
length_16 (suc n) [] z = absurd (omega (arith, z))
length_16 (suc n) (a ∷ []) z = absurd (omega (arith, z))
length_16 (suc n) (a ∷ b ∷ []) z = absurd (omega (arith, z))
length_16 (suc n) (a ∷ b ∷ c ∷ []) z = absurd (omega (arith, z))
length_16 (suc n) (a ∷ b ∷ c ∷ d ∷ []) z = absurd (omega (arith, z))
length_16 (suc n) (a ∷ b ∷ c ∷ d ∷ e ∷ []) z = absurd (omega (arith, z))
length_16 (suc n) (a ∷ b ∷ c ∷ d ∷ e ∷ f ∷ []) z = absurd (omega (arith, z))
length_16 (suc n) (a ∷ b ∷ c ∷ d ∷ e ∷ f ∷ g ∷ []) z = absurd (omega (arith, z))
length_16 (suc n) (a ∷ a' ∷ r ∷ r' ∷ g ∷ g' ∷ b ∷ b' ∷ rest) z = ap suc (length_16 n rest (omega (arith, z)))

-- ---- in both depths

pub pixels_take : (most s : ℕ) (bs : List ℕ) → IsDepth most → pixels_of most (take (pixel_size most * s) bs) ≡ take s (pixels_of most bs)
pixels_take most s bs (inl e) = subst (λ m. pixels_of m (take (pixel_size m * s) bs) ≡ take s (pixels_of m bs)) (sym e) (take_8 s bs)
pixels_take most s bs (inr e) = subst (λ m. pixels_of m (take (pixel_size m * s) bs) ≡ take s (pixels_of m bs)) (sym e) (take_16 s bs)

pub pixels_drop : (most s : ℕ) (bs : List ℕ) → IsDepth most → pixels_of most (drop (pixel_size most * s) bs) ≡ drop s (pixels_of most bs)
pixels_drop most s bs (inl e) = subst (λ m. pixels_of m (drop (pixel_size m * s) bs) ≡ drop s (pixels_of m bs)) (sym e) (drop_8 s bs)
pixels_drop most s bs (inr e) = subst (λ m. pixels_of m (drop (pixel_size m * s) bs) ≡ drop s (pixels_of m bs)) (sym e) (drop_16 s bs)

pub pixels_append : (most : ℕ) (xs ys : List ℕ) → IsDepth most → length xs ≡ pixel_size most * length (pixels_of most xs)
    → pixels_of most (xs ++ ys) ≡ pixels_of most xs ++ pixels_of most ys
pixels_append most xs ys (inl e) =
    subst (λ m. length xs ≡ pixel_size m * length (pixels_of m xs) → pixels_of m (xs ++ ys) ≡ pixels_of m xs ++ pixels_of m ys) (sym e) (append_8 xs ys)
pixels_append most xs ys (inr e) =
    subst (λ m. length xs ≡ pixel_size m * length (pixels_of m xs) → pixels_of m (xs ++ ys) ≡ pixels_of m xs ++ pixels_of m ys) (sym e) (append_16 xs ys)

pub pixels_length : (most n : ℕ) (xs : List ℕ) → IsDepth most → length xs ≡ pixel_size most * n → length (pixels_of most xs) ≡ n
pixels_length most n xs (inl e) = subst (λ m. length xs ≡ pixel_size m * n → length (pixels_of m xs) ≡ n) (sym e) (length_8 n xs)
pixels_length most n xs (inr e) = subst (λ m. length xs ≡ pixel_size m * n → length (pixels_of m xs) ≡ n) (sym e) (length_16 n xs)

pub pixels_none : (most : ℕ) → IsDepth most → pixels_of most [] ≡ []
pixels_none most (inl e) = subst (λ m. pixels_of m [] ≡ []) (sym e) refl
pixels_none most (inr e) = subst (λ m. pixels_of m [] ≡ []) (sym e) refl

pub size_is : (most : ℕ) → IsDepth most → (4 ≤ pixel_size most) × (pixel_size most ≤ 8)
size_is most (inl e) = subst (λ m. (4 ≤ pixel_size m) × (pixel_size m ≤ 8)) (sym e) (omega arith, omega arith)
size_is most (inr e) = subst (λ m. (4 ≤ pixel_size m) × (pixel_size m ≤ 8)) (sym e) (omega arith, omega arith)

-- ---- bytes that are whole pixels

rest_8 : (n s x : ℕ) → x ≡ 4 * n → x - 4 * s ≡ 4 * (n - s)
rest_8 n s x h = omega (arith, h)

rest_16 : (n s x : ℕ) → x ≡ 8 * n → x - 8 * s ≡ 8 * (n - s)
rest_16 n s x h = omega (arith, h)

pub rest_whole : (most n s x : ℕ) → IsDepth most → x ≡ pixel_size most * n → x - pixel_size most * s ≡ pixel_size most * (n - s)
rest_whole most n s x (inl e) = subst (λ m. x ≡ pixel_size m * n → x - pixel_size m * s ≡ pixel_size m * (n - s)) (sym e) (rest_8 n s x)
rest_whole most n s x (inr e) = subst (λ m. x ≡ pixel_size m * n → x - pixel_size m * s ≡ pixel_size m * (n - s)) (sym e) (rest_16 n s x)

-- so many bytes are at most so many pixels
few_8 : (n s : ℕ) → 4 * s ≤ 4 * n → s ≤ n
few_8 n s h = omega (arith, h)

few_16 : (n s : ℕ) → 8 * s ≤ 8 * n → s ≤ n
few_16 n s h = omega (arith, h)

pub few_whole : (most n s : ℕ) → IsDepth most → pixel_size most * s ≤ pixel_size most * n → s ≤ n
few_whole most n s (inl e) = subst (λ m. pixel_size m * s ≤ pixel_size m * n → s ≤ n) (sym e) (few_8 n s)
few_whole most n s (inr e) = subst (λ m. pixel_size m * s ≤ pixel_size m * n → s ≤ n) (sym e) (few_16 n s)

-- as many bytes of both, one after another
both_whole : (size m n : ℕ) → size * m + size * n ≡ size * (m + n)
both_whole size m n = omega arith

pub packed_made : (most n : ℕ) (xs : List ℕ) → IsDepth most → length xs ≡ pixel_size most * n → All (IsPremultiplied most) (pixels_of most xs) → IsPacked most xs
packed_made most n xs depth long all =
    record { whole = long ∙ ap (λ k. pixel_size most * k) (sym (pixels_length most n xs depth long)); premultiplied = all }

pub take_packed : (most s : ℕ) (xs : List ℕ) → IsDepth most → pixel_size most * s ≤ length xs → IsPacked most xs → IsPacked most (take (pixel_size most * s) xs)
take_packed most s xs depth within is =
    packed_made most s (take (pixel_size most * s) xs) depth (omega (arith, length-take (pixel_size most * s) xs))
    (subst (All (IsPremultiplied most)) (sym (pixels_take most s xs depth)) (All-take (IsPremultiplied most) s (pixels_of most xs) is.premultiplied))

pub drop_packed : (most s : ℕ) (xs : List ℕ) → IsDepth most → IsPacked most xs → IsPacked most (drop (pixel_size most * s) xs)
drop_packed most s xs depth is =
    packed_made most (length (pixels_of most xs) - s) (drop (pixel_size most * s) xs) depth
    (length-drop (pixel_size most * s) xs ∙ rest_whole most (length (pixels_of most xs)) s (length xs) depth is.whole)
    (subst (All (IsPremultiplied most)) (sym (pixels_drop most s xs depth)) (All-drop (IsPremultiplied most) s (pixels_of most xs) is.premultiplied))

pub append_packed : (most : ℕ) (xs ys : List ℕ) → IsDepth most → IsPacked most xs → IsPacked most ys → IsPacked most (xs ++ ys)
append_packed most xs ys depth is also =
    let apart = pixels_append most xs ys depth is.whole in
    record {
      whole = let long : length (pixels_of most (xs ++ ys)) ≡ length (pixels_of most xs) + length (pixels_of most ys) = ap length apart ∙ length-append (pixels_of most xs) (pixels_of most ys) in
          length-append xs ys ∙ ap₂ (λ m n. m + n) is.whole also.whole
          ∙ both_whole (pixel_size most) (length (pixels_of most xs)) (length (pixels_of most ys))
          ∙ ap (λ k. pixel_size most * k) (sym long);
      premultiplied = subst (All (IsPremultiplied most)) (sym apart) (All-append (IsPremultiplied most) (pixels_of most xs) (pixels_of most ys) is.premultiplied also.premultiplied);
    }

-- so many pixels of bytes, from a place on
pub pixels_mid : (most a k s n : ℕ) (xs : List ℕ) → IsDepth most → a ≡ pixel_size most * s → k ≡ pixel_size most * n
    → pixels_of most (take k (drop a xs)) ≡ take n (drop s (pixels_of most xs))
pixels_mid most a k s n xs depth first many =
    ap₂ (λ i j. pixels_of most (take j (drop i xs))) first many
    ∙ pixels_take most n (drop (pixel_size most * s) xs) depth ∙ ap (take n) (pixels_drop most s xs depth)

pub mid_packed : (most a k s n : ℕ) (xs : List ℕ) → IsDepth most → a ≡ pixel_size most * s → k ≡ pixel_size most * n → a + k ≤ length xs → IsPacked most xs
    → IsPacked most (take k (drop a xs))
mid_packed most a k s n xs depth first many within is =
    subst (IsPacked most) (sym (ap₂ (λ i j. take j (drop i xs)) first many))
    (take_packed most n (drop (pixel_size most * s) xs) depth (omega (arith, length-drop (pixel_size most * s) xs, within, first, many)) (drop_packed most s xs depth is))

-- a part of bytes
pub pixels_between : (most a e s t : ℕ) (xs : List ℕ) → IsDepth most → a ≡ pixel_size most * s → e ≡ pixel_size most * t
    → pixels_of most (between a e xs) ≡ between s t (pixels_of most xs)
pixels_between most a e s t xs depth first last =
    ap (pixels_of most) (between_is xs a e ∙ ap₂ (λ i j. drop i (take j xs)) first last)
    ∙ pixels_drop most s (take (pixel_size most * t) xs) depth ∙ ap (drop s) (pixels_take most t xs depth)
    ∙ sym (between_is (pixels_of most xs) s t)

pub between_packed : (most a e s t : ℕ) (xs : List ℕ) → IsDepth most → a ≡ pixel_size most * s → e ≡ pixel_size most * t → e ≤ length xs → IsPacked most xs
    → IsPacked most (between a e xs)
between_packed most a e s t xs depth first last within is =
    subst (IsPacked most) (sym (between_is xs a e ∙ ap₂ (λ i j. drop i (take j xs)) first last))
    (drop_packed most s (take (pixel_size most * t) xs) depth (take_packed most t xs depth (omega (arith, last, within)) is))

-- a part that is written over
pub pixels_put : (most a k s n : ℕ) (xs ys : List ℕ) → IsDepth most → a ≡ pixel_size most * s → k ≡ pixel_size most * n → length ys ≡ k → a ≤ length xs
    → pixels_of most (put_mid a k xs ys) ≡ put_mid s n (pixels_of most xs) (pixels_of most ys)
pixels_put most a k s n xs ys depth first many long within =
    let size = pixel_size most in
    let front : length (take (size * s) xs) ≡ size * s = omega (arith, length-take (size * s) xs, within, first) in
    let before = front ∙ ap (λ m. size * m) (sym (pixels_length most s (take (size * s) xs) depth front)) in
    let middle = long ∙ many ∙ ap (λ m. size * m) (sym (pixels_length most n ys depth (long ∙ many))) in
    ap₂ (λ i j. pixels_of most (put_mid i j xs ys)) first many
    ∙ pixels_append most (take (size * s) xs) (ys ++ drop (size * n) (drop (size * s) xs)) depth before
    ∙ ap₂ (λ u v. u ++ v) (pixels_take most s xs depth)
    (pixels_append most ys (drop (size * n) (drop (size * s) xs)) depth middle
    ∙ ap (λ v. pixels_of most ys ++ v) (pixels_drop most n (drop (size * s) xs) depth ∙ ap (drop n) (pixels_drop most s xs depth)))

pub length_put : (xs ys : List ℕ) (a k : ℕ) → a + k ≤ length xs → length ys ≡ k → length (put_mid a k xs ys) ≡ length xs
length_put xs ys a k within long = simp (length-append, length-take, length-drop) (omega arith)

pub put_packed : (most a k s n : ℕ) (xs ys : List ℕ) → IsDepth most → a ≡ pixel_size most * s → k ≡ pixel_size most * n → length ys ≡ k → a + k ≤ length xs
    → IsPacked most xs → IsPacked most ys → IsPacked most (put_mid a k xs ys)
put_packed most a k s n xs ys depth first many long within is also =
    let P = IsPremultiplied most in
    let old = pixels_of most xs in
    packed_made most (length old) (put_mid a k xs ys) depth (length_put xs ys a k within long ∙ is.whole)
    (subst (All P) (sym (pixels_put most a k s n xs ys depth first many long (omega arith)))
    (All-append P (take s old) _ (All-take P s old is.premultiplied)
    (All-append P (pixels_of most ys) _ also.premultiplied (All-drop P n (drop s old) (All-drop P s old is.premultiplied)))))

-- the bytes of a pixel that is there
pub whole_one : (most at : ℕ) (xs : List ℕ) → IsPacked most xs → at < length (pixels_of most xs) → pixel_size most * at + pixel_size most ≤ length xs
whole_one most at xs is l = omega (arith, is.whole, mul-le-mul_left {m = at + 1} {n = length (pixels_of most xs)} (pixel_size most) (omega (arith, l)))

-- ---- bytes that are all 0

zeros_8 : (n : ℕ) → pixels_of_8 (replicate (4 * n) 0) ≡ replicate n clear
zeros_8 zero = refl
zeros_8 (suc n) = ap (λ k. pixels_of_8 (replicate k 0)) (four_more n) ∙ ap (λ (t : List Argb). clear ∷ t) (zeros_8 n)

zeros_16 : (n : ℕ) → pixels_of_16 (replicate (8 * n) 0) ≡ replicate n clear
zeros_16 zero = refl
zeros_16 (suc n) = ap (λ k. pixels_of_16 (replicate k 0)) (eight_more n) ∙ ap (λ (t : List Argb). clear ∷ t) (zeros_16 n)

pub pixels_clear : (most n k : ℕ) → IsDepth most → k ≡ pixel_size most * n → pixels_of most (replicate k 0) ≡ replicate n clear
pixels_clear most n k (inl e) many = ap (λ j. pixels_of most (replicate j 0)) many ∙ subst (λ m. pixels_of m (replicate (pixel_size m * n) 0) ≡ replicate n clear) (sym e) (zeros_8 n)
pixels_clear most n k (inr e) many = ap (λ j. pixels_of most (replicate j 0)) many ∙ subst (λ m. pixels_of m (replicate (pixel_size m * n) 0) ≡ replicate n clear) (sym e) (zeros_16 n)

pub clear_packed : (most n : ℕ) (bs : List ℕ) → IsDepth most → bs ≡ replicate (length bs) 0 → length bs ≡ pixel_size most * n → IsPacked most bs
clear_packed most n bs depth all long =
    packed_made most n bs depth long
    (subst (All (IsPremultiplied most)) (sym (ap (pixels_of most) all ∙ pixels_clear most n (length bs) depth long))
    (All-replicate (IsPremultiplied most) n clear (clear_premultiplied most)))
