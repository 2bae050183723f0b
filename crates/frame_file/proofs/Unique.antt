-- Bytes that are read as the same pixels, with the same first frame, are the same.
use Rattle.std.proofs.Common.{◌≡◌, ℕ, zero, suc, ◌+◌, ◌*◌, ◌<◌, ◌⊎◌, inl, inr, Bool, true, false, List, [], ◌∷◌, ◌++◌, length, take, drop, None, Ok, refl, sym, ap, subst, ◌∙◌, arith, not, codes, unsigned_abs, nat_lt, length-drop}
use Rattle.std.specs.Prelude.{flat_map}
use Rattle.std.specs.Int.{w16, w32, to_be_bytes}
use Rattle.std.proofs.lemmas.Bool.Decides.{nat_tests}
use Rattle.std.proofs.lemmas.Slice.Eq.{bytes_eq-Decides}
use Rattle.std.proofs.lemmas.List.{take-append-drop, drop-drop}
use Rattle.argb_pixel.specs.Pixel.{Argb}
use Rattle.project_model.specs.declared.clip.ClipUse.{ClipUse}
use Rattle.frame_file.specs.Afr.{pixel_bytes}
use Rattle.project_model.specs.Clip.{IsReadable, clip_length, pixel_count, pixel_size}
use Rattle.frame_file.specs.Clip.{Pictures, differs, header_fault, clip_of, pictures_of, pixels_of, pixels_of_8, pixels_of_16, channel_of, is_short}
use Rattle.frame_file.specs.Laws.{AreBytes, first_bytes}
use Rattle.frame_file.proofs.Scan.{none_of_cond}
use Rattle.frame_file.proofs.Written.{channel_split}
use Rattle.frame_file.proofs.Inversion.{IsRead, is_read}

-- the bytes of the pixels of bytes
repixel_8 : (n : ℕ) (xs : List ℕ) → length xs ≡ n * 4 → flat_map (pixel_bytes 8) (pixels_of_8 xs) ≡ xs
repixel_8 n [] e = refl
repixel_8 zero (a ∷ xs) e = absurd (omega arith)
repixel_8 (suc n) (a ∷ []) e = absurd (omega arith)
repixel_8 (suc n) (a ∷ r ∷ []) e = absurd (omega arith)
repixel_8 (suc n) (a ∷ r ∷ g ∷ []) e = absurd (omega arith)
repixel_8 (suc n) (a ∷ r ∷ g ∷ b ∷ rest) e = ap (λ ys. a ∷ r ∷ g ∷ b ∷ ys) (repixel_8 n rest (omega arith))

-- bytes one by one
abbrev AllSmall : List ℕ → Type 0
AllSmall [] = Unit {0}
AllSmall (x ∷ xs) = (x < 256) × AllSmall xs

all_small : (xs : List ℕ) → AreBytes xs → AllSmall xs
all_small [] h = tt
all_small (x ∷ xs) h = (h 0 x (omega arith), all_small xs (λ k d l. h (suc k) d (omega arith)))

small_drop : (n : ℕ) (xs : List ℕ) → AllSmall xs → AllSmall (drop n xs)
small_drop zero xs h = h
small_drop (suc n) [] h = tt
small_drop (suc n) (x ∷ xs) h = small_drop n xs h.1

repixel_16 : (n : ℕ) (xs : List ℕ) → length xs ≡ n * 8 → AllSmall xs → flat_map (pixel_bytes 16) (pixels_of_16 xs) ≡ xs
repixel_16 n [] e h = refl
repixel_16 zero (a ∷ xs) e h = absurd (omega arith)
repixel_16 (suc n) (a ∷ []) e h = absurd (omega arith)
repixel_16 (suc n) (a ∷ a' ∷ []) e h = absurd (omega arith)
repixel_16 (suc n) (a ∷ a' ∷ r ∷ []) e h = absurd (omega arith)
repixel_16 (suc n) (a ∷ a' ∷ r ∷ r' ∷ []) e h = absurd (omega arith)
repixel_16 (suc n) (a ∷ a' ∷ r ∷ r' ∷ g ∷ []) e h = absurd (omega arith)
repixel_16 (suc n) (a ∷ a' ∷ r ∷ r' ∷ g ∷ g' ∷ []) e h = absurd (omega arith)
repixel_16 (suc n) (a ∷ a' ∷ r ∷ r' ∷ g ∷ g' ∷ b ∷ []) e h = absurd (omega arith)
repixel_16 (suc n) (a ∷ a' ∷ r ∷ r' ∷ g ∷ g' ∷ b ∷ b' ∷ rest) e h =
    ap (λ ys. ys ++ to_be_bytes w16 (channel_of r r') ++ to_be_bytes w16 (channel_of g g') ++ to_be_bytes w16 (channel_of b b') ++ flat_map (pixel_bytes 16) (pixels_of_16 rest)) (channel_split a a' h.0 h.1.0)
    ∙ ap (λ ys. a ∷ a' ∷ ys ++ to_be_bytes w16 (channel_of g g') ++ to_be_bytes w16 (channel_of b b') ++ flat_map (pixel_bytes 16) (pixels_of_16 rest)) (channel_split r r' h.1.1.0 h.1.1.1.0)
    ∙ ap (λ ys. a ∷ a' ∷ r ∷ r' ∷ ys ++ to_be_bytes w16 (channel_of b b') ++ flat_map (pixel_bytes 16) (pixels_of_16 rest)) (channel_split g g' h.1.1.1.1.0 h.1.1.1.1.1.0)
    ∙ ap (λ ys. a ∷ a' ∷ r ∷ r' ∷ g ∷ g' ∷ ys ++ flat_map (pixel_bytes 16) (pixels_of_16 rest)) (channel_split b b' h.1.1.1.1.1.1.0 h.1.1.1.1.1.1.1.0)
    ∙ ap (λ ys. a ∷ a' ∷ r ∷ r' ∷ g ∷ g' ∷ b ∷ b' ∷ ys) (repixel_16 n rest (omega arith) h.1.1.1.1.1.1.1.1)

-- bytes of as many whole pixels, by their pixels
same_pixels : (depth n : ℕ) (xs ys : List ℕ) → (depth ≡ 8) ⊎ (depth ≡ 16) → length xs ≡ n * pixel_size depth → length ys ≡ n * pixel_size depth → AllSmall xs → AllSmall ys → pixels_of depth xs ≡ pixels_of depth ys → xs ≡ ys
same_pixels depth n xs ys (inl e) lx ly hx hy s =
    let X : length xs ≡ n * 4 = lx ∙ ap (λ d. n * pixel_size d) e in
    let Y : length ys ≡ n * 4 = ly ∙ ap (λ d. n * pixel_size d) e in
    let P : ℕ → Type 0 = λ d. pixels_of d xs ≡ pixels_of d ys in
    let S : pixels_of_8 xs ≡ pixels_of_8 ys = subst P e s in
    sym (repixel_8 n xs X) ∙ ap (flat_map (pixel_bytes 8)) S ∙ repixel_8 n ys Y
same_pixels depth n xs ys (inr e) lx ly hx hy s =
    let X : length xs ≡ n * 8 = lx ∙ ap (λ d. n * pixel_size d) e in
    let Y : length ys ≡ n * 8 = ly ∙ ap (λ d. n * pixel_size d) e in
    let P : ℕ → Type 0 = λ d. pixels_of d xs ≡ pixels_of d ys in
    let S : pixels_of_16 xs ≡ pixels_of_16 ys = subst P e s in
    sym (repixel_16 n xs X hx) ∙ ap (flat_map (pixel_bytes 16)) S ∙ repixel_16 n ys Y hy

-- a field and what is behind it
joined : (place size : ℕ) (xs ys : List ℕ) → take size (drop place xs) ≡ take size (drop place ys) → drop (place + size) xs ≡ drop (place + size) ys → drop place xs ≡ drop place ys
joined place size xs ys f r =
    sym (take-append-drop size (drop place xs))
    ∙ ap (λ zs. zs ++ drop size (drop place xs)) f
    ∙ ap (λ zs. take size (drop place ys) ++ zs) (drop-drop size place xs ∙ r ∙ sym (drop-drop size place ys))
    ∙ take-append-drop size (drop place ys)

-- a field that does not differ
field_is : (place : ℕ) (field bytes : List ℕ) → differs place field bytes ≡ false → take (length field) (drop place bytes) ≡ field
field_is place field bytes e = (bytes_eq-Decides (take (length field) (drop place bytes)) field).0 (true_of _ e)
  where
    true_of : (b : Bool) → not b ≡ false → b ≡ true
    true_of true h = refl
    true_of false h = let wrong : ⊥ = cc in absurd wrong

same_at : (place : ℕ) (field xs ys : List ℕ) → differs place field xs ≡ false → differs place field ys ≡ false → take (length field) (drop place xs) ≡ take (length field) (drop place ys)
same_at place field xs ys x y = field_is place field xs x ∙ sym (field_is place field ys y)

-- the declared length of bytes that were read
length_read : (bytes : List ℕ) (declared : ClipUse) (clip : Pictures) → IsRead (length bytes) bytes declared clip → length bytes ≡ clip_length declared
length_read bytes declared clip h = whole (length bytes) (clip_length declared) h.whole h.ended
  where
    whole : (n want : ℕ) → is_short n n want ≡ false → nat_lt want n ≡ false → n ≡ want
    whole n want s e = grind (arith, nat_tests)

-- all fields but the first frame's
record Fields (declared : ClipUse) (bytes : List ℕ) : Type 0 where
  width : differs 4 (to_be_bytes w32 declared.width) bytes ≡ false
  height : differs 8 (to_be_bytes w32 declared.height) bytes ≡ false
  depth : differs 12 (declared.depth ∷ []) bytes ≡ false
  value : differs 13 (to_be_bytes w32 (unsigned_abs declared.frame.value)) bytes ≡ false
  scale : differs 17 (to_be_bytes w32 declared.frame.scale) bytes ≡ false
  frames : differs 25 (to_be_bytes w32 declared.frames) bytes ≡ false

fields_of : (declared : ClipUse) (bytes : List ℕ) → header_fault declared bytes ≡ None → Fields declared bytes
fields_of declared bytes e =
    let a = none_of_cond (differs 4 (to_be_bytes w32 declared.width) bytes) 0 _ e in
    let b = none_of_cond (differs 8 (to_be_bytes w32 declared.height) bytes) 1 _ a.1 in
    let c = none_of_cond (differs 12 (declared.depth ∷ []) bytes) 2 _ b.1 in
    let d = none_of_cond (differs 13 (to_be_bytes w32 (unsigned_abs declared.frame.value)) bytes) 3 _ c.1 in
    let f = none_of_cond (differs 17 (to_be_bytes w32 declared.frame.scale) bytes) 4 _ d.1 in
    let g = none_of_cond (differs 25 (to_be_bytes w32 declared.frames) bytes) 5 _ f.1 in
    record { width = a.0; height = b.0; depth = c.0; value = d.0; scale = f.0; frames = g.0 }

pub no_other : (declared : ClipUse) (pixels : List Argb) (bytes other : List ℕ) → IsReadable declared → AreBytes bytes → AreBytes other → clip_of bytes declared ≡ Ok (pictures_of declared pixels) → clip_of other declared ≡ Ok (pictures_of declared pixels) → first_bytes bytes ≡ first_bytes other → bytes ≡ other
no_other declared pixels bytes other r small small' e e' first =
    let h = is_read (length bytes) bytes declared (pictures_of declared pixels) e in
    let h' = is_read (length other) other declared (pictures_of declared pixels) e' in
    let f = fields_of declared bytes h.fields in
    let f' = fields_of declared other h'.fields in
    let read : pixels_of declared.depth (drop 29 bytes) ≡ pixels_of declared.depth (drop 29 other) = ap (λ (c : Pictures). c.pixels) (sym h.pictures ∙ h'.pictures) in
    let long : length (drop 29 bytes) ≡ pixel_count declared * pixel_size declared.depth = omega (arith, length_read bytes declared (pictures_of declared pixels) h, length-drop 29 bytes) in
    let long' : length (drop 29 other) ≡ pixel_count declared * pixel_size declared.depth = omega (arith, length_read other declared (pictures_of declared pixels) h', length-drop 29 other) in
    let body : drop 29 bytes ≡ drop 29 other = same_pixels declared.depth (pixel_count declared) (drop 29 bytes) (drop 29 other) r.depth long long' (small_drop 29 bytes (all_small bytes small)) (small_drop 29 other (all_small other small')) read in
    joined 0 4 bytes other (same_at 0 (codes "AFR1") bytes other h.magic h'.magic)
    (joined 4 4 bytes other (same_at 4 (to_be_bytes w32 declared.width) bytes other f.width f'.width)
    (joined 8 4 bytes other (same_at 8 (to_be_bytes w32 declared.height) bytes other f.height f'.height)
    (joined 12 1 bytes other (same_at 12 (declared.depth ∷ []) bytes other f.depth f'.depth)
    (joined 13 4 bytes other (same_at 13 (to_be_bytes w32 (unsigned_abs declared.frame.value)) bytes other f.value f'.value)
    (joined 17 4 bytes other (same_at 17 (to_be_bytes w32 declared.frame.scale) bytes other f.scale f'.scale)
    (joined 21 4 bytes other first
    (joined 25 4 bytes other (same_at 25 (to_be_bytes w32 declared.frames) bytes other f.frames f'.frames) body)))))))
