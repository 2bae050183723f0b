-- A packed row that is changed from the left.
use Rattle.std.proofs.Common.{◌≡◌, ℕ, zero, suc, ◌+◌, ◌-◌, ◌*◌, ◌<◌, ◌≤◌, List, [], ◌∷◌, ◌++◌, All, length, take, drop, get_or, set, refl, ap, ap₂, sym, subst, ◌∙◌, arith}
use borrow.Rule.Slice.PartMut.{put_mid}
use Rattle.std.proofs.Math.Nat.{mul-le-mul_left}
use Rattle.std.proofs.Math.Seq.{take-append-add, drop-append-add, take-append_seam, drop-append_seam, take-length, drop-length, take-add}
use Rattle.std.proofs.lemmas.List.{append_assoc, append-nil, drop-drop, length-take-le, length-drop, length-append}
use Rattle.std.proofs.lemmas.List.Elements.{All-push, All-append}
use Rattle.argb_pixel.specs.Depth.{IsDepth}
use Rattle.argb_pixel.specs.Pixel.{Argb, IsPremultiplied}
use Rattle.argb_pixel.specs.Packed.{pixel_size, packed, pixels_of, IsPacked}
use Rattle.argb_pixel.proofs.Bytes.{of_depths, pixels_append, ahead, length-packed, packed_and_read, pixel_size_pos, one_packed}

-- the pixels before the place are made, and the rest is to come
pub record Row (most : ℕ) (made : List Argb) (d : List ℕ) (at : ℕ) (rest : List Argb) : Type 0 where
  pub all : made ≡ pixels_of most (take at d) ++ rest
  pub whole : at ≡ pixel_size most * length (pixels_of most (take at d))
  pub fits : All (IsPremultiplied most) (pixels_of most (take at d))
  pub reached : at ≤ length d

no_pixels : (most : ℕ) → IsDepth most → pixels_of most [] ≡ []
no_pixels most depth = of_depths (λ m. pixels_of m [] ≡ []) refl refl most depth

no_fits : (most : ℕ) (ps : List Argb) → ps ≡ [] → All (IsPremultiplied most) ps
no_fits most ps e = λ k d lt. absurd (omega (arith, lt, ap length e))

pub row_start : (most : ℕ) → IsDepth most → (made : List Argb) (d : List ℕ) → Row most made d 0 made
row_start most depth made d = record {
  all = ap (λ ps. ps ++ made) (sym (no_pixels most depth));
  whole = (let none : 0 ≡ pixel_size most * 0 = omega arith in none) ∙ ap (λ ps. pixel_size most * length ps) (sym (no_pixels most depth));
  fits = no_fits most (pixels_of most []) (no_pixels most depth);
  reached = omega arith;
}

-- the bytes up to the next place
pub front_is : (most : ℕ) → IsDepth most → (d d' tail : List ℕ) (at : ℕ) (p : Argb) → at ≤ length d → d' ≡ take at d ++ (packed most p ++ tail)
    → take (at + pixel_size most) d' ≡ take at d ++ packed most p
front_is most depth d d' tail at p le e =
    let long = length-take-le at d le in
    ap (take (at + pixel_size most)) e
    ∙ ap (λ n. take (n + pixel_size most) (take at d ++ (packed most p ++ tail))) (sym long)
    ∙ take-append-add (take at d) (packed most p ++ tail) (pixel_size most)
    ∙ ap (λ n. take at d ++ take n (packed most p ++ tail)) (sym (length-packed most p depth))
    ∙ ap (λ v. take at d ++ v) (take-append_seam (packed most p) tail)

pub rest_is : (most : ℕ) → IsDepth most → (d d' tail : List ℕ) (at : ℕ) (p : Argb) → at ≤ length d → d' ≡ take at d ++ (packed most p ++ tail)
    → drop (at + pixel_size most) d' ≡ tail
rest_is most depth d d' tail at p le e =
    let long = length-take-le at d le in
    ap (drop (at + pixel_size most)) e
    ∙ ap (λ n. drop (n + pixel_size most) (take at d ++ (packed most p ++ tail))) (sym long)
    ∙ drop-append-add (take at d) (packed most p ++ tail) (pixel_size most)
    ∙ ap (λ n. drop n (packed most p ++ tail)) (sym (length-packed most p depth))
    ∙ drop-append_seam (packed most p) tail

pub row_next : (most : ℕ) → IsDepth most → (made rest : List Argb) (d d' tail : List ℕ) (at : ℕ) (p : Argb) → Row most made d at (p ∷ rest) → IsPremultiplied most p
    → d' ≡ take at d ++ (packed most p ++ tail) → at + pixel_size most ≤ length d' → Row most made d' (at + pixel_size most) rest
row_next most depth made rest d d' tail at p row fits e room =
    let before = pixels_of most (take at d) in
    let long = length-take-le at d row.reached in
    let now : pixels_of most (take (at + pixel_size most) d') ≡ before ++ (p ∷ []) =
    ap (pixels_of most) (front_is most depth d d' tail at p row.reached e)
    ∙ pixels_append most depth (take at d) (packed most p) (long ∙ row.whole)
    ∙ ap (λ v. before ++ v) (packed_and_read most p depth fits) in
    let more : length (before ++ (p ∷ [])) ≡ length before + 1 = length-append before (p ∷ []) in
    let step : at + pixel_size most ≡ pixel_size most * (length before + 1) = omega (arith, row.whole) in
    record {
      all = row.all ∙ sym (append_assoc before (p ∷ []) rest) ∙ ap (λ v. v ++ rest) (sym now);
      whole = step ∙ ap (λ n. pixel_size most * n) (sym more) ∙ ap (λ v. pixel_size most * length v) (sym now);
      fits = subst (All (IsPremultiplied most)) (sym now) (All-push (IsPremultiplied most) before p row.fits fits);
      reached = room;
    }

-- a loop over a row: `later` are the pixels to come from a place on
pub record Laid (most : ℕ) (later : ℕ → List Argb) (old d : List ℕ) (at : ℕ) : Type 0 where
  pub row : Row most (later 0) d at (later at)
  pub kept : drop at d ≡ drop at old
  pub same : length d ≡ length old
  pub reached : at ≤ length old

pub laid_start : (most : ℕ) → IsDepth most → (later : ℕ → List Argb) (old : List ℕ) → Laid most later old old 0
laid_start most depth later old = record { row = row_start most depth (later 0) old; kept = refl; same = refl; reached = omega arith }

pub laid_next : (most : ℕ) → IsDepth most → (later : ℕ → List Argb) (old d d' : List ℕ) (at : ℕ) (p : Argb) → Laid most later old d at
    → later at ≡ p ∷ later (at + pixel_size most) → IsPremultiplied most p → at + pixel_size most ≤ length old
    → d' ≡ take at d ++ (packed most p ++ drop (pixel_size most) (drop at d)) → Laid most later old d' (at + pixel_size most)
laid_next most depth later old d d' at p l next fits room e =
    let size = pixel_size most in
    let tail = drop size (drop at d) in
    let within : at ≤ length d = omega (arith, l.reached, l.same) in
    let counted : length d' ≡ length d =
    ap length e ∙ length-append (take at d) (packed most p ++ tail)
    ∙ ap₂ (λ x y. x + y) (length-take-le at d within) (length-append (packed most p) tail ∙ ap₂ (λ x y. x + y) (length-packed most p depth) (length-drop size (drop at d) ∙ ap (λ n. n - size) (length-drop at d)))
    ∙ omega (arith, room, l.same) in
    record {
      row = row_next most depth (later 0) (later (at + size)) d d' tail at p (subst (Row most (later 0) d at) next l.row) fits e (omega (arith, counted, l.same, room));
      kept = rest_is most depth d d' tail at p within e ∙ ap (drop size) l.kept ∙ drop-drop size at old;
      same = counted ∙ l.same;
      reached = room;
    }

pub laid_twice : (most : ℕ) → IsDepth most → (later : ℕ → List Argb) (old d d' : List ℕ) (at : ℕ) (p q : Argb) → Laid most later old d at
    → later at ≡ p ∷ later (at + pixel_size most) → later (at + pixel_size most) ≡ q ∷ later (at + 2 * pixel_size most) → IsPremultiplied most p → IsPremultiplied most q
    → at + 2 * pixel_size most ≤ length old
    → d' ≡ take at d ++ (packed most p ++ (packed most q ++ drop (2 * pixel_size most) (drop at d))) → Laid most later old d' (at + 2 * pixel_size most)
laid_twice most depth later old d d' at p q l first second fits fits' room e =
    let size = pixel_size most in
    let d1 = take at d ++ (packed most p ++ drop size (drop at d)) in
    let within : at ≤ length d = omega (arith, l.reached, l.same) in
    let one = laid_next most depth later old d d1 at p l first fits (omega (arith, room)) refl in
    let place : at + size + size ≡ at + 2 * size = omega arith in
    let rest : drop (2 * size) (drop at d) ≡ drop size (drop (at + size) d1) =
    ap (λ n. drop n (drop at d)) (let twice : 2 * size ≡ size + size = omega arith in twice) ∙ sym (drop-drop size size (drop at d))
    ∙ ap (drop size) (sym (rest_is most depth d d1 (drop size (drop at d)) at p within refl)) in
    let is : d' ≡ take (at + size) d1 ++ (packed most q ++ drop size (drop (at + size) d1)) =
    e ∙ ap (λ v. take at d ++ (packed most p ++ (packed most q ++ v))) rest
    ∙ sym (append_assoc (take at d) (packed most p) (packed most q ++ drop size (drop (at + size) d1)))
    ∙ ap (λ v. v ++ (packed most q ++ drop size (drop (at + size) d1))) (sym (front_is most depth d d1 (drop size (drop at d)) at p within refl)) in
    subst (Laid most later old d') place
    (laid_next most depth later old d1 d' (at + size) q one (second ∙ ap (λ n. q ∷ later n) (sym place)) fits' (omega (arith, room)) is)

-- at the end
pub laid_made : (most : ℕ) (later : ℕ → List Argb) (old d : List ℕ) (at : ℕ) → Laid most later old d at → length old ≤ at → later at ≡ [] → pixels_of most d ≡ later 0
laid_made most later old d at l ended none =
    let place : at ≡ length d = omega (arith, ended, l.reached, l.same) in
    let whole : take at d ≡ d = ap (λ n. take n d) place ∙ take-length d in
    ap (pixels_of most) (sym whole) ∙ sym (append-nil (pixels_of most (take at d))) ∙ ap (λ v. pixels_of most (take at d) ++ v) (sym none) ∙ sym l.row.all

pub laid_packed : (most : ℕ) (later : ℕ → List Argb) (old d : List ℕ) (at : ℕ) → Laid most later old d at → length old ≤ at → IsPacked most d
laid_packed most later old d at l ended =
    let place : at ≡ length d = omega (arith, ended, l.reached, l.same) in
    let whole : take at d ≡ d = ap (λ n. take n d) place ∙ take-length d in
    record {
      whole = sym place ∙ l.row.whole ∙ ap (λ v. pixel_size most * length (pixels_of most v)) whole;
      premultiplied = subst (λ v. All (IsPremultiplied most) (pixels_of most v)) whole l.row.fits;
    }

-- a row whose rest is made by another call
pub joined_made : (most : ℕ) → IsDepth most → (later : ℕ → List Argb) (old d end d' : List ℕ) (at : ℕ) → Laid most later old d at → pixels_of most end ≡ later at
    → d' ≡ take at d ++ end → pixels_of most d' ≡ later 0
joined_made most depth later old d end d' at l made e =
    let within : at ≤ length d = omega (arith, l.reached, l.same) in
    ap (pixels_of most) e ∙ pixels_append most depth (take at d) end (length-take-le at d within ∙ l.row.whole)
    ∙ ap (λ v. pixels_of most (take at d) ++ v) made ∙ sym l.row.all

pub joined_packed : (most : ℕ) → IsDepth most → (later : ℕ → List Argb) (old d end d' : List ℕ) (at : ℕ) → Laid most later old d at → IsPacked most end
    → d' ≡ take at d ++ end → IsPacked most d'
joined_packed most depth later old d end d' at l h e =
    let within : at ≤ length d = omega (arith, l.reached, l.same) in
    let before = pixels_of most (take at d) in
    let parts : pixels_of most d' ≡ before ++ pixels_of most end =
    ap (pixels_of most) e ∙ pixels_append most depth (take at d) end (length-take-le at d within ∙ l.row.whole) in
    let size = pixel_size most in
    record {
      whole = ap length e ∙ length-append (take at d) end ∙ ap₂ (λ x y. x + y) (length-take-le at d within ∙ l.row.whole) h.whole
          ∙ (let sum : size * length before + size * length (pixels_of most end) ≡ size * (length before + length (pixels_of most end)) = omega arith in sum)
          ∙ ap (λ n. size * n) (sym (length-append before (pixels_of most end))) ∙ ap (λ v. size * length v) (sym parts);
      premultiplied = subst (All (IsPremultiplied most)) (sym parts) (All-append (IsPremultiplied most) before (pixels_of most end) l.row.fits h.premultiplied);
    }

-- one pixel of a row
pub one_at : (most : ℕ) → IsDepth most → (xs : List ℕ) (at end : ℕ) → at < length xs → IsPacked most (drop at xs) → end ≡ at + pixel_size most
    → (length (take (end - at) (drop at xs)) ≡ pixel_size most) × IsPacked most (take (end - at) (drop at xs))
one_at most depth xs at end lt h e =
    let a = ahead most depth (drop at xs) h (omega (arith, lt, length-drop at xs)) in
    let size : end - at ≡ pixel_size most = omega (arith, e) in
    let long = length-take-le (pixel_size most) (drop at xs) a.long in
    subst (λ (n : ℕ). (length (take n (drop at xs)) ≡ pixel_size most) × IsPacked most (take n (drop at xs))) (sym size)
    (long, one_packed most a.pixel (take (pixel_size most) (drop at xs)) long a.first a.fits)

-- a place within a row, and the pixel's end
pub room_at : (most : ℕ) → IsDepth most → (xs : List ℕ) (at : ℕ) → at < length xs → IsPacked most (drop at xs) → at + pixel_size most ≤ length xs
room_at most depth xs at lt h =
    let a = ahead most depth (drop at xs) h (omega (arith, lt, length-drop at xs)) in
    omega (arith, a.long, length-drop at xs, lt)

-- the two pixels that begin a row
pub record Two (most : ℕ) (xs : List ℕ) : Type 0 where
  pub p : Argb
  pub q : Argb
  pub first : pixels_of most (take (2 * pixel_size most) xs) ≡ p ∷ q ∷ []
  pub all : pixels_of most xs ≡ p ∷ pixels_of most (drop (pixel_size most) xs)
  pub later : pixels_of most (drop (pixel_size most) xs) ≡ q ∷ pixels_of most (drop (2 * pixel_size most) xs)
  pub fits : IsPremultiplied most p
  pub fits_later : IsPremultiplied most q
  pub rest : IsPacked most (drop (2 * pixel_size most) xs)

pub two : (most : ℕ) → IsDepth most → (xs : List ℕ) → IsPacked most xs → 2 * pixel_size most ≤ length xs → Two most xs
two most depth xs h room =
    let size = pixel_size most in
    let some = pixel_size_pos most depth in
    let a = ahead most depth xs h (omega (arith, room, some)) in
    let b = ahead most depth (drop size xs) a.rest (omega (arith, room, some, length-drop size xs)) in
    let twice : 2 * size ≡ size + size = omega arith in
    let long = length-take-le size xs a.long in
    let past : drop size (drop size xs) ≡ drop (2 * size) xs = drop-drop size size xs ∙ ap (λ n. drop n xs) (sym twice) in
    record {
      p = a.pixel;
      q = b.pixel;
      first = ap (λ n. pixels_of most (take n xs)) twice ∙ ap (pixels_of most) (take-add size size xs)
          ∙ pixels_append most depth (take size xs) (take size (drop size xs))
          (long ∙ (let once : size ≡ size * 1 = omega arith in once) ∙ ap (λ (v : List Argb). size * length v) (sym a.first))
          ∙ ap₂ (λ (u v : List Argb). u ++ v) a.first b.first;
      all = a.all;
      later = b.all ∙ ap (λ v. b.pixel ∷ pixels_of most v) past;
      fits = a.fits;
      fits_later = b.fits;
      rest = subst (IsPacked most) past b.rest;
    }

-- a slice from a place to the end
pub rest_whole : {A : Type 0} (xs : List A) (n : ℕ) → take (length xs - n) (drop n xs) ≡ drop n xs
rest_whole xs n = ap (λ k. take k (drop n xs)) (sym (length-drop n xs)) ∙ take-length (drop n xs)

-- a row whose end is written over
pub over_end : (d end : List ℕ) (at : ℕ) → at ≤ length d → put_mid at (length d - at) d end ≡ take at d ++ end
over_end d end at le =
    let none : drop (length d - at) (drop at d) ≡ [] =
    drop-drop (length d - at) at d ∙ ap (λ n. drop n d) (let all : at + (length d - at) ≡ length d = omega (arith, le) in all) ∙ drop-length d in
    ap (λ v. take at d ++ (end ++ v)) none ∙ ap (λ v. take at d ++ v) (append-nil end)

-- a whole row of pixels, from its pixels
pub row_packed : (most : ℕ) (made : List Argb) (d : List ℕ) (at : ℕ) (rest : List Argb) → Row most made d at rest → length d ≤ at → rest ≡ [] → (pixels_of most d ≡ made) × IsPacked most d
row_packed most made d at rest row ended none =
    let place : at ≡ length d = omega (arith, ended, row.reached) in
    let whole : take at d ≡ d = ap (λ n. take n d) place ∙ take-length d in
    let all : pixels_of most d ≡ made =
    ap (pixels_of most) (sym whole) ∙ sym (append-nil (pixels_of most (take at d))) ∙ ap (λ v. pixels_of most (take at d) ++ v) (sym none) ∙ sym row.all in (
      all,
      record {
        whole = sym place ∙ row.whole ∙ ap (λ v. pixel_size most * length (pixels_of most v)) whole;
        premultiplied = subst (λ v. All (IsPremultiplied most) (pixels_of most v)) whole row.fits;
      },
    )

-- the element at a place, and those after it
pub drop_at : {A : Type 0} (xs : List A) (i : ℕ) (d : A) → i < length xs → drop i xs ≡ get_or xs i d ∷ drop (i + 1) xs
drop_at [] i d lt = absurd (omega (arith, lt))
drop_at (x ∷ xs) zero d lt = refl
drop_at (x ∷ xs) (suc i) d lt = drop_at xs i d (omega (arith, lt)) ∙ ap (λ n. get_or xs i d ∷ drop n (x ∷ xs)) (let same : suc (i + 1) ≡ suc i + 1 = omega arith in same)

-- a list that is filled from the left
pub filled_more : {A : Type 0} (xs old : List A) (i : ℕ) (x : A) (rest : List A) → i < length old → drop i xs ≡ x ∷ rest
    → set (take i xs ++ drop i old) i x ≡ take (i + 1) xs ++ drop (i + 1) old
filled_more xs [] i x rest lt e = absurd (omega (arith, lt))
filled_more [] (y ∷ old) zero x rest lt e = absurd (omega (arith, ap length e))
filled_more [] (y ∷ old) (suc i) x rest lt e = absurd (omega (arith, ap length e))
filled_more (z ∷ xs) (y ∷ old) zero x rest lt e = ap (λ v. v ∷ old) (ap (λ l. get_or l 0 x) (sym e))
filled_more (z ∷ xs) (y ∷ old) (suc i) x rest lt e =
    ap (λ v. z ∷ v) (filled_more xs old i x rest (omega (arith, lt)) e)
    ∙ ap (λ n. take n (z ∷ xs) ++ drop n (y ∷ old)) (let same : suc (i + 1) ≡ suc i + 1 = omega arith in same)

-- the end of the pixel with a number, in a row of so many
pub room_of : (size i n at all : ℕ) → i < n → at ≡ i * size → all ≡ n * size → at + size ≤ all
room_of size i n at all lt ea eall = omega (arith, mul-le-mul_left {m = i + 1} {n = n} size (omega (arith, lt)), ea, eall)

-- a row of pixels is written, a pixel after another
pub pack_step : (most : ℕ) → IsDepth most → (row : List Argb) (into part : List ℕ) (at i k next : ℕ) (p : Argb) → Row most row into at (drop i row) → i < length row
    → p ≡ get_or row i p → IsPremultiplied most p → part ≡ packed most p → at ≡ i * pixel_size most → length into ≡ length row * pixel_size most → next ≡ at + pixel_size most
    → Row most row (put_mid at k into part) next (drop (i + 1) row)
pack_step most depth row into part at i k next p r lt ep fits epart ea long e =
    let size = pixel_size most in
    let room = room_of size i (length row) at (length into) lt ea long in
    let tail = drop k (drop at into) in
    let is : put_mid at k into part ≡ take at into ++ (packed most p ++ tail) = ap (λ v. take at into ++ (v ++ tail)) epart in
    let counted : at + size ≤ length (put_mid at k into part) =
    omega (arith, ap length is, length-append (take at into) (packed most p ++ tail), length-take-le at into r.reached, length-append (packed most p) tail, length-packed most p depth) in
    let first : drop i row ≡ p ∷ drop (i + 1) row = drop_at row i p lt ∙ ap (λ (q : Argb). q ∷ drop (i + 1) row) (sym ep) in
    subst (λ (n : ℕ). Row most row (put_mid at k into part) n (drop (i + 1) row)) (sym e)
    (row_next most depth row (drop (i + 1) row) into (put_mid at k into part) tail at p (subst (Row most row into at) first r) fits is counted)

-- and read
pub unpack_step : (most : ℕ) → IsDepth most → (bytes : List ℕ) (into old : List Argb) (at i k next : ℕ) (p : Argb) → into ≡ take i (pixels_of most bytes) ++ drop i old
    → drop i (pixels_of most bytes) ≡ pixels_of most (drop at bytes) → IsPacked most (drop at bytes) → at < length bytes → i < length old
    → pixels_of most (take k (drop at bytes)) ≡ p ∷ [] → k ≡ pixel_size most → next ≡ at + pixel_size most
    → (set into i p ≡ take (i + 1) (pixels_of most bytes) ++ drop (i + 1) old)
    × ((drop (i + 1) (pixels_of most bytes) ≡ pixels_of most (drop next bytes)) × IsPacked most (drop next bytes))
unpack_step most depth bytes into old at i k next p read rest h lt few first ek e =
    let size = pixel_size most in
    let a = ahead most depth (drop at bytes) h (omega (arith, lt, length-drop at bytes)) in
    let same : p ≡ a.pixel = ap (λ l. get_or l 0 p) (sym first ∙ ap (λ n. pixels_of most (take n (drop at bytes))) ek ∙ a.first) in
    let ps = pixels_of most bytes in
    let here : drop i ps ≡ p ∷ pixels_of most (drop size (drop at bytes)) = rest ∙ a.all ∙ ap (λ (q : Argb). q ∷ pixels_of most (drop size (drop at bytes))) (sym same) in
    let past : drop size (drop at bytes) ≡ drop next bytes = drop-drop size at bytes ∙ ap (λ n. drop n bytes) (sym e) in (
      ap (λ v. set v i p) read ∙ filled_more ps old i p (pixels_of most (drop size (drop at bytes))) few here,
      (sym (drop-drop 1 i ps) ∙ ap (drop 1) here ∙ ap (pixels_of most) past, subst (IsPacked most) past a.rest),
    )
