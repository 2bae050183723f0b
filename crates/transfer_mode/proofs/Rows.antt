-- Steps of a loop over a packed row, and its end.
use Rattle.std.proofs.Common.{◌≡◌, ℕ, ◌+◌, ◌-◌, ◌*◌, ◌<◌, ◌≤◌, List, [], ◌∷◌, ◌++◌, length, take, drop, get_or, map, flat_map, ap, ap₂, sym, subst, ◌∙◌, arith}
use lib.Lanes.{zip2}
use borrow.Rule.Slice.PartMut.{put_mid}
use Rattle.std.proofs.lemmas.List.{drop-drop, length-drop}
use Rattle.argb_pixel.specs.Depth.{IsDepth}
use Rattle.argb_pixel.specs.Pixel.{Argb, IsPremultiplied}
use Rattle.argb_pixel.specs.Packed.{pixel_size, packed, pixels_of, IsPacked}
use Rattle.argb_pixel.proofs.Bytes.{ahead}
use Rattle.argb_pixel.proofs.Filled.{Laid, laid_next, laid_twice, joined_made, joined_packed, room_at, two, rest_whole, over_end}
use Rattle.transfer_mode.specs.Lanes.{channels}

-- the pixels to come where each is made of two
abbrev pub zips : ℕ → (Argb → Argb → Argb) → List ℕ → List ℕ → ℕ → List Argb
zips most f s old at = zip2 f (pixels_of most (drop at s)) (pixels_of most (drop at old))

-- and of one source
abbrev pub maps : ℕ → (Argb → Argb) → List ℕ → ℕ → List Argb
maps most f old at = map f (pixels_of most (drop at old))

same_first : (p q : Argb) → p ∷ [] ≡ q ∷ [] → p ≡ q
same_first p q e = ap (λ l. get_or l 0 p) e

abbrev pub IsKept : ℕ → (Argb → Argb → Argb) → Type 0
IsKept most f = (p q : Argb) → IsPremultiplied most p → IsPremultiplied most q → IsPremultiplied most (f p q)

pub zip_step : (most : ℕ) → IsDepth most → (f : Argb → Argb → Argb) → IsKept most f → (s old d d' : List ℕ) (at next : ℕ) (p : Argb) → length s ≡ length old
    → Laid most (zips most f s old) old d at → IsPacked most (drop at s) → IsPacked most (drop at old) → at < length d → next ≡ at + pixel_size most
    → pixels_of most (take (pixel_size most) (drop at s)) ≡ p ∷ []
    → ((q : Argb) → pixels_of most (take (pixel_size most) (drop at d)) ≡ q ∷ [] → d' ≡ take at d ++ (packed most (f p q) ++ drop (pixel_size most) (drop at d)))
    → Laid most (zips most f s old) old d' next × (IsPacked most (drop next s) × IsPacked most (drop next old))
zip_step most depth f kept s old d d' at next p long l hs ho lt e ep made =
    let size = pixel_size most in
    let less : at < length old = omega (arith, lt, l.same) in
    let a = ahead most depth (drop at s) hs (omega (arith, less, long, length-drop at s)) in
    let b = ahead most depth (drop at old) ho (omega (arith, less, length-drop at old)) in
    let first : p ≡ a.pixel = same_first p a.pixel (sym ep ∙ a.first) in
    let q = b.pixel in
    let here : pixels_of most (take size (drop at d)) ≡ q ∷ [] = ap (λ v. pixels_of most (take size v)) l.kept ∙ b.first in
    let next_is : zips most f s old at ≡ f a.pixel q ∷ zips most f s old (at + size) =
    ap₂ (zip2 f) a.all b.all ∙ ap₂ (λ u v. f a.pixel q ∷ zip2 f (pixels_of most u) (pixels_of most v)) (drop-drop size at s) (drop-drop size at old) in
    let is : d' ≡ take at d ++ (packed most (f a.pixel q) ++ drop size (drop at d)) =
    made q here ∙ ap (λ (x : Argb). take at d ++ (packed most (f x q) ++ drop size (drop at d))) first in
    let step = laid_next most depth (zips most f s old) old d d' at (f a.pixel q) l next_is (kept a.pixel q a.fits b.fits) (room_at most depth old at less ho) is in
    subst (λ (n : ℕ). Laid most (zips most f s old) old d' n × (IsPacked most (drop n s) × IsPacked most (drop n old))) (sym e)
    (step, (subst (IsPacked most) (drop-drop size at s) a.rest, subst (IsPacked most) (drop-drop size at old) b.rest))

pub map_step : (most : ℕ) → IsDepth most → (f : Argb → Argb) → ((q : Argb) → IsPremultiplied most q → IsPremultiplied most (f q)) → (old d d' : List ℕ) (at next : ℕ)
    → Laid most (maps most f old) old d at → IsPacked most (drop at old) → at < length d → next ≡ at + pixel_size most
    → ((q : Argb) → pixels_of most (take (pixel_size most) (drop at d)) ≡ q ∷ [] → d' ≡ take at d ++ (packed most (f q) ++ drop (pixel_size most) (drop at d)))
    → Laid most (maps most f old) old d' next × IsPacked most (drop next old)
map_step most depth f kept old d d' at next l ho lt e made =
    let size = pixel_size most in
    let less : at < length old = omega (arith, lt, l.same) in
    let b = ahead most depth (drop at old) ho (omega (arith, less, length-drop at old)) in
    let q = b.pixel in
    let here : pixels_of most (take size (drop at d)) ≡ q ∷ [] = ap (λ v. pixels_of most (take size v)) l.kept ∙ b.first in
    let next_is : maps most f old at ≡ f q ∷ maps most f old (at + size) =
    ap (map f) b.all ∙ ap (λ v. f q ∷ map f (pixels_of most v)) (drop-drop size at old) in
    let step = laid_next most depth (maps most f old) old d d' at (f q) l next_is (kept q b.fits) (room_at most depth old at less ho) (made q here) in
    subst (λ (n : ℕ). Laid most (maps most f old) old d' n × IsPacked most (drop n old)) (sym e)
    (step, subst (IsPacked most) (drop-drop size at old) b.rest)

pub zip_steps : (most : ℕ) → IsDepth most → (f : Argb → Argb → Argb) → IsKept most f → (s old d d' : List ℕ) (at next : ℕ) (row : List ℕ) → length s ≡ length old
    → Laid most (zips most f s old) old d at → IsPacked most (drop at s) → IsPacked most (drop at old) → at + 2 * pixel_size most ≤ length d → next ≡ at + 2 * pixel_size most
    → row ≡ flat_map channels (pixels_of most (take (2 * pixel_size most) (drop at s)))
    → ((p p' q q' : Argb) → IsPremultiplied most p → IsPremultiplied most p' → IsPremultiplied most q → IsPremultiplied most q' → row ≡ channels p ++ channels p'
    → pixels_of most (take (2 * pixel_size most) (drop at d)) ≡ q ∷ q' ∷ []
    → d' ≡ take at d ++ (packed most (f p q) ++ (packed most (f p' q') ++ drop (2 * pixel_size most) (drop at d))))
    → Laid most (zips most f s old) old d' next × (IsPacked most (drop next s) × IsPacked most (drop next old))
zip_steps most depth f kept s old d d' at next row long l hs ho room e er made =
    let size = pixel_size most in
    let within : at + 2 * size ≤ length old = omega (arith, room, l.same) in
    let a = two most depth (drop at s) hs (omega (arith, within, long, length-drop at s)) in
    let b = two most depth (drop at old) ho (omega (arith, within, length-drop at old)) in
    let here : pixels_of most (take (2 * size) (drop at d)) ≡ b.p ∷ b.q ∷ [] = ap (λ v. pixels_of most (take (2 * size) v)) l.kept ∙ b.first in
    let first : zips most f s old at ≡ f a.p b.p ∷ zips most f s old (at + size) =
    ap₂ (zip2 f) a.all b.all ∙ ap₂ (λ u v. f a.p b.p ∷ zip2 f (pixels_of most u) (pixels_of most v)) (drop-drop size at s) (drop-drop size at old) in
    let second : zips most f s old (at + size) ≡ f a.q b.q ∷ zips most f s old (at + 2 * size) =
    ap₂ (λ u v. zip2 f (pixels_of most u) (pixels_of most v)) (sym (drop-drop size at s)) (sym (drop-drop size at old)) ∙ ap₂ (zip2 f) a.later b.later
    ∙ ap₂ (λ u v. f a.q b.q ∷ zip2 f (pixels_of most u) (pixels_of most v)) (drop-drop (2 * size) at s) (drop-drop (2 * size) at old) in
    let is = made a.p a.q b.p b.q a.fits a.fits_later b.fits b.fits_later (er ∙ ap (flat_map channels) a.first) here in
    let step = laid_twice most depth (zips most f s old) old d d' at (f a.p b.p) (f a.q b.q) l first second (kept a.p b.p a.fits b.fits) (kept a.q b.q a.fits_later b.fits_later) within is in
    subst (λ (n : ℕ). Laid most (zips most f s old) old d' n × (IsPacked most (drop n s) × IsPacked most (drop n old))) (sym e)
    (step, (subst (IsPacked most) (drop-drop (2 * size) at s) a.rest, subst (IsPacked most) (drop-drop (2 * size) at old) b.rest))

pub map_steps : (most : ℕ) → IsDepth most → (f : Argb → Argb → Argb) → IsKept most f → (p : Argb) → IsPremultiplied most p → (old d d' : List ℕ) (at next : ℕ) (row : List ℕ)
    → Laid most (maps most (f p) old) old d at → IsPacked most (drop at old) → at + 2 * pixel_size most ≤ length d → next ≡ at + 2 * pixel_size most
    → row ≡ channels p ++ channels p
    → ((p p' q q' : Argb) → IsPremultiplied most p → IsPremultiplied most p' → IsPremultiplied most q → IsPremultiplied most q' → row ≡ channels p ++ channels p'
    → pixels_of most (take (2 * pixel_size most) (drop at d)) ≡ q ∷ q' ∷ []
    → d' ≡ take at d ++ (packed most (f p q) ++ (packed most (f p' q') ++ drop (2 * pixel_size most) (drop at d))))
    → Laid most (maps most (f p) old) old d' next × IsPacked most (drop next old)
map_steps most depth f kept p hp old d d' at next row l ho room e er made =
    let size = pixel_size most in
    let within : at + 2 * size ≤ length old = omega (arith, room, l.same) in
    let b = two most depth (drop at old) ho (omega (arith, within, length-drop at old)) in
    let here : pixels_of most (take (2 * size) (drop at d)) ≡ b.p ∷ b.q ∷ [] = ap (λ v. pixels_of most (take (2 * size) v)) l.kept ∙ b.first in
    let first : maps most (f p) old at ≡ f p b.p ∷ maps most (f p) old (at + size) =
    ap (map (f p)) b.all ∙ ap (λ v. f p b.p ∷ map (f p) (pixels_of most v)) (drop-drop size at old) in
    let second : maps most (f p) old (at + size) ≡ f p b.q ∷ maps most (f p) old (at + 2 * size) =
    ap (λ v. map (f p) (pixels_of most v)) (sym (drop-drop size at old)) ∙ ap (map (f p)) b.later
    ∙ ap (λ v. f p b.q ∷ map (f p) (pixels_of most v)) (drop-drop (2 * size) at old) in
    let is = made p p b.p b.q hp hp b.fits b.fits_later er here in
    let step = laid_twice most depth (maps most (f p) old) old d d' at (f p b.p) (f p b.q) l first second (kept p b.p hp b.fits) (kept p b.q hp b.fits_later) within is in
    subst (λ (n : ℕ). Laid most (maps most (f p) old) old d' n × IsPacked most (drop n old)) (sym e)
    (step, subst (IsPacked most) (drop-drop (2 * size) at old) b.rest)

-- ---- the last pixels

pub zip_end : (most : ℕ) → IsDepth most → (f : Argb → Argb → Argb) → (s old d end : List ℕ) (at : ℕ) → Laid most (zips most f s old) old d at → IsPacked most end
    → pixels_of most end ≡ zip2 f (pixels_of most (take (length s - at) (drop at s))) (pixels_of most (take (length d - at) (drop at d)))
    → (pixels_of most (put_mid at (length d - at) d end) ≡ zips most f s old 0) × IsPacked most (put_mid at (length d - at) d end)
zip_end most depth f s old d end at l h e =
    let is = over_end d end at (omega (arith, l.reached, l.same)) in
    let made : pixels_of most end ≡ zips most f s old at =
    e ∙ ap₂ (λ u v. zip2 f (pixels_of most u) (pixels_of most v)) (rest_whole s at) (rest_whole d at ∙ l.kept) in (
      joined_made most depth (zips most f s old) old d end (put_mid at (length d - at) d end) at l made is,
      joined_packed most depth (zips most f s old) old d end (put_mid at (length d - at) d end) at l h is,
    )

pub map_end : (most : ℕ) → IsDepth most → (f : Argb → Argb) → (old d end : List ℕ) (at : ℕ) → Laid most (maps most f old) old d at → IsPacked most end
    → pixels_of most end ≡ map f (pixels_of most (take (length d - at) (drop at d)))
    → (pixels_of most (put_mid at (length d - at) d end) ≡ maps most f old 0) × IsPacked most (put_mid at (length d - at) d end)
map_end most depth f old d end at l h e =
    let is = over_end d end at (omega (arith, l.reached, l.same)) in
    let made : pixels_of most end ≡ maps most f old at = e ∙ ap (λ v. map f (pixels_of most v)) (rest_whole d at ∙ l.kept) in (
      joined_made most depth (maps most f old) old d end (put_mid at (length d - at) d end) at l made is,
      joined_packed most depth (maps most f old) old d end (put_mid at (length d - at) d end) at l h is,
    )
