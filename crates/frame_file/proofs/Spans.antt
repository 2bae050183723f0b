-- Rows of points of a picture, as they stand in the file.
use Rattle.std.proofs.Common.{◌≡◌, ℕ, ◌+◌, ◌-◌, ◌*◌, ◌<◌, ◌≤◌, ◌⊎◌, inl, inr, List, [], ◌∷◌, All, length, take, drop, get_or, refl, sym, ap, subst, ◌∙◌, arith, length-drop}
use Rattle.std.proofs.lemmas.List.{get_or-take, get_or-drop}
use Rattle.std.proofs.Math.Nat.{mul-le-mul_left}
use Rattle.argb_pixel.specs.Depth.{IsDepth}
use Rattle.argb_pixel.specs.Pixel.{Argb, IsPremultiplied, clear}
use Rattle.argb_pixel.specs.Packed as row
use Rattle.argb_pixel.specs.Packed.{IsPacked}
use Rattle.argb_pixel.proofs.Parts.{packed_made}
use Rattle.project_model.specs.Bounds.{most_of, header_length}
use Rattle.project_model.specs.Clip.{pixel_size}
use Rattle.frame_file.specs.Clip.{Pictures, IsKept, channel_of, pixels_of, pixels_of_8, pixels_of_16, in_depth, pixel_in}
use Rattle.frame_file.proofs.Scan.{rest_is}
use Rattle.frame_file.proofs.Places.{behind, all_sound, span_within}

-- ---- the bytes behind the header as packed pixels

same_8 : (xs : List ℕ) → row.pixels_of_8 xs ≡ pixels_of_8 xs
same_8 [] = refl
same_8 (a ∷ []) = refl
same_8 (a ∷ r ∷ []) = refl
same_8 (a ∷ r ∷ g ∷ []) = refl
same_8 (a ∷ r ∷ g ∷ b ∷ rest) = ap (λ (t : List Argb). record { a = a; r = r; g = g; b = b } ∷ t) (same_8 rest)

same_16 : (xs : List ℕ) → row.pixels_of_16 xs ≡ pixels_of_16 xs
same_16 [] = refl
same_16 (a ∷ []) = refl
same_16 (a ∷ a' ∷ []) = refl
same_16 (a ∷ a' ∷ r ∷ []) = refl
same_16 (a ∷ a' ∷ r ∷ r' ∷ []) = refl
same_16 (a ∷ a' ∷ r ∷ r' ∷ g ∷ []) = refl
same_16 (a ∷ a' ∷ r ∷ r' ∷ g ∷ g' ∷ []) = refl
same_16 (a ∷ a' ∷ r ∷ r' ∷ g ∷ g' ∷ b ∷ []) = refl
same_16 (a ∷ a' ∷ r ∷ r' ∷ g ∷ g' ∷ b ∷ b' ∷ rest) =
    ap (λ (t : List Argb). record { a = channel_of a a'; r = channel_of r r'; g = channel_of g g'; b = channel_of b b' } ∷ t) (same_16 rest)

-- what both have to say of a depth
record IsSame (depth most : ℕ) : Type 0 where
  pub depth_is : IsDepth most
  pub size : row.pixel_size most ≡ pixel_size depth
  pub pixels : (xs : List ℕ) → row.pixels_of most xs ≡ pixels_of depth xs

same_of : (depth most : ℕ) → (depth ≡ 8) ⊎ (depth ≡ 16) → most_of depth ≡ most → IsSame depth most
same_of depth most (inl e) is =
    subst (λ m. IsSame depth m) is
    (subst (λ d. IsSame d (most_of d)) (sym e) record { depth_is = inl refl; size = refl; pixels = same_8 })
same_of depth most (inr e) is =
    subst (λ m. IsSame depth m) is
    (subst (λ d. IsSame d (most_of d)) (sym e) record { depth_is = inr refl; size = refl; pixels = same_16 })

pub span_depth : (depth most : ℕ) → (depth ≡ 8) ⊎ (depth ≡ 16) → most_of depth ≡ most → IsDepth most
span_depth depth most either is = (same_of depth most either is).depth_is

long_is : (xs ys : List ℕ) (n : ℕ) → ys ≡ xs → length xs ≡ 29 + n → length (behind header_length ys) ≡ n
long_is xs ys n s l =
    let here : length (behind header_length ys) ≡ length xs - 29 = ap length (rest_is header_length ys ∙ ap (drop header_length) s) ∙ length-drop 29 xs in
    omega (arith, here, l)

-- there are as many as the pictures have
pub span_there : (clip : Pictures) (most : ℕ) (xs ys : List ℕ) (picture x y n start : ℕ) → IsKept clip xs → most_of clip.depth ≡ most → ys ≡ xs → picture < clip.frames → y < clip.height
    → x + n ≤ clip.width → start ≡ (picture * clip.height + y) * clip.width + x → row.pixel_size most * (start + n) ≤ length (behind header_length ys)
span_there clip most xs ys picture x y n start kept is s p r c at =
    let same = same_of clip.depth most kept.depth is in
    let count = clip.frames * (clip.width * clip.height) in
    let long : length (behind header_length ys) ≡ count * pixel_size clip.depth = long_is xs ys (count * pixel_size clip.depth) s kept.long in
    let within : start + n ≤ count = omega (arith, at, span_within picture clip.frames clip.width clip.height x y n p r c) in
    let size : row.pixel_size most * (start + n) ≡ pixel_size clip.depth * (start + n) = ap (λ k. k * (start + n)) same.size in
    let turned : count * pixel_size clip.depth ≡ pixel_size clip.depth * count = omega arith in
    omega (arith, long, size, turned, mul-le-mul_left (pixel_size clip.depth) within)

-- and all are premultiplied
pub span_packed : (clip : Pictures) (most : ℕ) (xs ys : List ℕ) → IsKept clip xs → clip.pixels ≡ pixels_of clip.depth (drop header_length xs) → most_of clip.depth ≡ most → ys ≡ xs
    → IsPacked most (behind header_length ys)
span_packed clip most xs ys kept pixels is s =
    let same = same_of clip.depth most kept.depth is in
    let count = clip.frames * (clip.width * clip.height) in
    let long : length (behind header_length ys) ≡ count * pixel_size clip.depth = long_is xs ys (count * pixel_size clip.depth) s kept.long in
    let read : row.pixels_of most (behind header_length ys) ≡ clip.pixels =
    ap (row.pixels_of most) (rest_is header_length ys ∙ ap (drop header_length) s) ∙ same.pixels (drop header_length xs) ∙ sym pixels in
    let turned : count * pixel_size clip.depth ≡ pixel_size clip.depth * count = omega arith in
    packed_made most count (behind header_length ys) same.depth_is (long ∙ turned ∙ ap (λ k. k * count) (sym same.size))
    (subst (All (IsPremultiplied most)) (sym read) (subst (λ m. All (IsPremultiplied m) clip.pixels) is (all_sound (most_of clip.depth) clip.pixels kept.sound)))

no_change : (depth : ℕ) (p : Argb) → (depth ≡ 8) ⊎ (depth ≡ 16) → in_depth (most_of depth) (most_of depth) p ≡ p
no_change depth p (inl e) = subst (λ d. in_depth (most_of d) (most_of d) p ≡ p) (sym e) refl
no_change depth p (inr e) = subst (λ d. in_depth (most_of d) (most_of d) p ≡ p) (sym e) refl

-- each is the picture's at its point
pub span_shown : (clip : Pictures) (most : ℕ) (xs ys bytes : List ℕ) (picture x y n start k : ℕ) → IsKept clip xs → clip.pixels ≡ pixels_of clip.depth (drop header_length xs) → most_of clip.depth ≡ most → ys ≡ xs
    → start ≡ (picture * clip.height + y) * clip.width + x → row.pixels_of most bytes ≡ take n (drop start (row.pixels_of most (behind header_length ys))) → k < n
    → get_or (row.pixels_of most bytes) k clear ≡ pixel_in most clip picture (x + k) y
span_shown clip most xs ys bytes picture x y n start k kept pixels is s at made within =
    let same = same_of clip.depth most kept.depth is in
    let read : row.pixels_of most (behind header_length ys) ≡ clip.pixels =
    ap (row.pixels_of most) (rest_is header_length ys ∙ ap (drop header_length) s) ∙ same.pixels (drop header_length xs) ∙ sym pixels in
    let place : start + k ≡ (picture * clip.height + y) * clip.width + (x + k) = omega (arith, at) in
    ap (λ ps. get_or ps k clear) (made ∙ ap (λ ps. take n (drop start ps)) read)
    ∙ get_or-take n (drop start clip.pixels) k clear within
    ∙ get_or-drop start clip.pixels k clear
    ∙ ap (λ j. get_or clip.pixels j clear) place
    ∙ sym (no_change clip.depth (get_or clip.pixels ((picture * clip.height + y) * clip.width + (x + k)) clear) kept.depth)
    ∙ ap (λ m. in_depth (most_of clip.depth) m (get_or clip.pixels ((picture * clip.height + y) * clip.width + (x + k)) clear)) is
