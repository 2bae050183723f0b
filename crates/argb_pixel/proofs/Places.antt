-- Pixels that are read from bytes, and written into them, one after another.
use Rattle.std.proofs.Common.{◌≡◌, ℕ, zero, suc, ◌+◌, ◌*◌, ◌-◌, ◌/◌, ◌<◌, ◌≤◌, List, [], ◌∷◌, ◌++◌, All, length, take, drop, get_or, set, replicate, ◌⊎◌, inl, inr, refl, ap, ap₂, sym, subst, ◌∙◌, arith, length-append, length-take, length-drop}
use Rattle.std.specs.List.{between}
use Rattle.std.proofs.lemmas.List.Edits.{length-between, get_or-between}
use Rattle.std.proofs.lemmas.List.{length-replicate, append-nil, drop_all, take_all, get_or-take, get_or-drop, get_or_default}
use Rattle.std.proofs.lemmas.Bool.{cases_lt}
use Rattle.std.proofs.lemmas.List.Elements.{All-append, All-take, All-drop}
use Rattle.std.proofs.Math.Nat.{mul-div_cancel_left}
use borrow.Rule.Slice.PartMut.{put_mid}
use Rattle.argb_pixel.specs.Depth.{IsDepth}
use Rattle.argb_pixel.specs.Pixel.{Argb, IsPremultiplied, clear}
use Rattle.argb_pixel.specs.Packed.{pixel_size, packed, pixels_of, pixels_of_8, pixels_of_16, IsPacked}
use Rattle.argb_pixel.proofs.Bytes.{packed_and_read}
use Rattle.argb_pixel.proofs.Parts.{pixels_mid, mid_packed, pixels_put, put_packed, length_put, pixels_length, packed_made, size_is}

-- the bytes of one pixel are that pixel
pub one_packed : (most a k at : ℕ) (bs : List ℕ) → IsDepth most → a ≡ pixel_size most * at → k ≡ pixel_size most → a + k ≤ length bs → IsPacked most bs
    → IsPacked most (take k (drop a bs))
one_packed most a k at bs depth first one within packed = mid_packed most a k at 1 bs depth first (one ∙ omega arith) within packed

pub one_read : (most a k at : ℕ) (bs : List ℕ) (p : Argb) → IsDepth most → a ≡ pixel_size most * at → k ≡ pixel_size most → a + k ≤ length bs
    → pixels_of most (take k (drop a bs)) ≡ p ∷ [] → p ≡ get_or (pixels_of most bs) at clear
one_read most a k at bs p depth first one within read =
    let parts : take 1 (drop at (pixels_of most bs)) ≡ p ∷ [] = sym (pixels_mid most a k at 1 bs depth first (one ∙ omega arith)) ∙ read in
    let place : at + 0 ≡ at = omega arith in
    ap (λ ps. get_or ps 0 clear) (sym parts) ∙ get_or-take 1 (drop at (pixels_of most bs)) 0 clear (omega arith)
    ∙ get_or-drop at (pixels_of most bs) 0 clear ∙ ap (λ k. get_or (pixels_of most bs) k clear) place

pub one_length : (most : ℕ) (p : Argb) → IsDepth most → length (packed most p) ≡ pixel_size most
one_length most p (inl e) = subst (λ m. length (packed m p) ≡ pixel_size m) (sym e) refl
one_length most p (inr e) = subst (λ m. length (packed m p) ≡ pixel_size m) (sym e) refl

-- the bytes of one pixel, written over those at a place
pub one_put : (most a k at : ℕ) (bs ys : List ℕ) (p : Argb) → IsDepth most → a ≡ pixel_size most * at → k ≡ pixel_size most → a + k ≤ length bs
    → IsPremultiplied most p → ys ≡ packed most p → pixels_of most (put_mid a k bs ys) ≡ put_mid at 1 (pixels_of most bs) (p ∷ [])
one_put most a k at bs ys p depth first one within fits bytes =
    let long : length ys ≡ k = ap length bytes ∙ one_length most p depth ∙ sym one in
    pixels_put most a k at 1 bs ys depth first (one ∙ omega arith) long (omega arith)
    ∙ ap (put_mid at 1 (pixels_of most bs)) (ap (pixels_of most) bytes ∙ packed_and_read most p depth fits)

-- ---- one pixel after another

-- a list whose first i are those of another
abbrev pub front_of : List Argb → List Argb → ℕ → List Argb
front_of done old i = take i done ++ drop i old

pub front_set : (done old : List Argb) (i : ℕ) → i < length done → i < length old → set (front_of done old i) i (get_or done i clear) ≡ front_of done old (suc i)
front_set [] old i ld lo = absurd (omega arith)
front_set (x ∷ done) [] i ld lo = absurd (omega arith)
front_set (x ∷ done) (y ∷ old) zero ld lo = refl
front_set (x ∷ done) (y ∷ old) (suc i) ld lo = ap (λ t. x ∷ t) (front_set done old i (omega arith) (omega arith))

pub set_put : (xs : List Argb) (i : ℕ) (p : Argb) → i < length xs → put_mid i 1 xs (p ∷ []) ≡ set xs i p
set_put [] i p l = absurd (omega arith)
set_put (x ∷ xs) zero p l = refl
set_put (x ∷ xs) (suc i) p l = ap (λ t. x ∷ t) (set_put xs i p (omega arith))

pub front_length : (done old : List Argb) (i : ℕ) → length done ≡ length old → length (front_of done old i) ≡ length old
front_length done old i same = simp (length-append, length-take, length-drop) (omega (arith, same))

-- one more
pub front_more : (done old row : List Argb) (i : ℕ) (p : Argb) → length done ≡ length old → i < length old → row ≡ front_of done old i → p ≡ get_or done i clear
    → set row i p ≡ front_of done old (i + 1)
front_more done old row i p same l is one = let next : suc i ≡ i + 1 = omega arith in
    ap₂ (λ r q. set r i q) is one ∙ front_set done old i (omega (arith, same)) l ∙ ap (front_of done old) next

pub put_more : (done old row new : List Argb) (i : ℕ) (p : Argb) → length done ≡ length old → i < length old → row ≡ front_of done old i → p ≡ get_or done i clear
    → new ≡ put_mid i 1 row (p ∷ []) → new ≡ front_of done old (i + 1)
put_more done old row new i p same l is one made =
    let long : length row ≡ length old = ap length is ∙ front_length done old i same in
    made ∙ set_put row i p (omega (arith, long)) ∙ front_more done old row i p same l is one

-- all
pub front_all : (done old row : List Argb) (i : ℕ) → length done ≡ length old → length old ≤ i → row ≡ front_of done old i → row ≡ done
front_all done old row i same end is =
    is ∙ ap₂ (λ u v. u ++ v) (take_all i done (omega (arith, same, end))) (drop_all i old end) ∙ append-nil done

-- and each is premultiplied
pub all_more : (P : Argb → Type 0) (done : List Argb) (i : ℕ) (p : Argb) → All P (take i done) → P p → i < length done → p ≡ get_or done i clear → All P (take (i + 1) done)
all_more P done i p all fits l is k d low = by (cases_lt k i)
  where
    short : length (take (i + 1) done) ≡ i + 1
    short = omega (arith, length-take (i + 1) done)

    at : (j : ℕ) → j < i + 1 → get_or (take (i + 1) done) j clear ≡ get_or done j clear
    at j lj = get_or-take (i + 1) done j clear lj

    by : (k < i) ⊎ (i ≤ k) → P (get_or (take (i + 1) done) k d)
    by (inl lk) =
        subst P (get_or-take i done k d lk ∙ sym (get_or-take (i + 1) done k d (omega arith))) (all k d (omega (arith, length-take i done)))
    by (inr ge) =
        let same : k ≡ i = omega (arith, short) in
        subst P (is ∙ ap (λ j. get_or done j clear) (sym same) ∙ sym (at k (omega (arith, short))) ∙ get_or_default (take (i + 1) done) k clear d low) fits

pub mid_length : (a k : ℕ) (bs : List ℕ) → a + k ≤ length bs → length (take k (drop a bs)) ≡ k
mid_length a k bs within = simp (length-take, length-drop) (omega arith)

-- ---- so many pixels from a place on, by the places of their bytes

part_many : (most size start n : ℕ) → size ≡ pixel_size most → size * (start + n) - size * start ≡ pixel_size most * n
part_many most size start n is = (omega arith) ∙ ap (λ s. s * n) is

pub part_length : (size start n : ℕ) (bs : List ℕ) → size * (start + n) ≤ length bs → length (take (size * (start + n) - size * start) (drop (size * start) bs)) ≡ size * n
part_length size start n bs within =
    let many : size * (start + n) - size * start ≡ size * n = omega arith in
    mid_length (size * start) (size * (start + n) - size * start) bs (omega (arith, many)) ∙ many

pub part_read : (most size start n : ℕ) (bs : List ℕ) → IsDepth most → size ≡ pixel_size most
    → pixels_of most (take (size * (start + n) - size * start) (drop (size * start) bs)) ≡ take n (drop start (pixels_of most bs))
part_read most size start n bs depth is =
    pixels_mid most (size * start) (size * (start + n) - size * start) start n bs depth (ap (λ s. s * start) is) (part_many most size start n is)

pub part_packed : (most size start n : ℕ) (bs : List ℕ) → IsDepth most → size ≡ pixel_size most → size * (start + n) ≤ length bs → IsPacked most bs
    → IsPacked most (take (size * (start + n) - size * start) (drop (size * start) bs))
part_packed most size start n bs depth is within packed =
    let many : size * (start + n) - size * start ≡ size * n = omega arith in
    mid_packed most (size * start) (size * (start + n) - size * start) start n bs depth (ap (λ s. s * start) is) (part_many most size start n is) (omega (arith, many)) packed

-- what is written over them
pub part_put : (most size start n : ℕ) (bs ys : List ℕ) (ps : List Argb) → IsDepth most → size ≡ pixel_size most → size * (start + n) ≤ length bs → length ys ≡ size * n
    → pixels_of most ys ≡ ps → pixels_of most (put_mid (size * start) (size * (start + n) - size * start) bs ys) ≡ put_mid start n (pixels_of most bs) ps
part_put most size start n bs ys ps depth is within long pixels =
    let many : size * (start + n) - size * start ≡ size * n = omega arith in
    pixels_put most (size * start) (size * (start + n) - size * start) start n bs ys depth (ap (λ s. s * start) is) (part_many most size start n is) (long ∙ sym many) (omega (arith, many))
    ∙ ap (put_mid start n (pixels_of most bs)) pixels

pub part_put_packed : (most size start n : ℕ) (bs ys : List ℕ) → IsDepth most → size ≡ pixel_size most → size * (start + n) ≤ length bs → length ys ≡ size * n
    → IsPacked most bs → IsPacked most ys → IsPacked most (put_mid (size * start) (size * (start + n) - size * start) bs ys)
part_put_packed most size start n bs ys depth is within long was packed =
    let many : size * (start + n) - size * start ≡ size * n = omega arith in
    put_packed most (size * start) (size * (start + n) - size * start) start n bs ys depth (ap (λ s. s * start) is) (part_many most size start n is) (long ∙ sym many) (omega (arith, many)) was packed

pub part_put_length : (size start n : ℕ) (bs ys : List ℕ) → size * (start + n) ≤ length bs → length ys ≡ size * n
    → length (put_mid (size * start) (size * (start + n) - size * start) bs ys) ≡ length bs
part_put_length size start n bs ys within long =
    let many : size * (start + n) - size * start ≡ size * n = omega arith in
    length_put bs ys (size * start) (size * (start + n) - size * start) (omega (arith, many)) (long ∙ sym many)

pub between_part : (ps : List Argb) (start n : ℕ) → take n (drop start ps) ≡ between start (start + n) ps
between_part ps start n = let e : (start + n) - start ≡ n = omega arith in ap (λ k. take k (drop start ps)) (sym e)

all_one : (P : Argb → Type 0) (p : Argb) → P p → All P (p ∷ [])
all_one P p fits zero d l = fits
all_one P p fits (suc k) d l = absurd (omega (arith, l))

-- one pixel is set
pub put_keeps_packed : (most at : ℕ) (bs new : List ℕ) (p : Argb) → IsDepth most → IsPacked most bs → length new ≡ length bs
    → pixels_of most new ≡ put_mid at 1 (pixels_of most bs) (p ∷ []) → IsPremultiplied most p → IsPacked most new
put_keeps_packed most at bs new p depth is long made fits =
    let P = IsPremultiplied most in
    let old = pixels_of most bs in
    packed_made most (length old) new depth (long ∙ is.whole)
    (subst (All P) (sym made)
    (All-append P (take at old) _ (All-take P at old is.premultiplied)
    (All-append P (p ∷ []) _ (all_one P p fits) (All-drop P 1 (drop at old) (All-drop P at old is.premultiplied)))))

-- how many pixels bytes are
pub count_is : (most size : ℕ) (bs : List ℕ) → IsDepth most → size ≡ pixel_size most → IsPacked most bs → length bs / size ≡ length (pixels_of most bs)
count_is most size bs depth is packed =
    ap₂ (λ (n s : ℕ). n / s) packed.whole is ∙ mul-div_cancel_left (length (pixels_of most bs)) (omega (arith, (size_is most depth).0))

-- as many bytes are as many pixels
pub same_count : (most : ℕ) (xs ys : List ℕ) → IsDepth most → length ys ≡ length xs → IsPacked most xs → length (pixels_of most ys) ≡ length (pixels_of most xs)
same_count most xs ys depth long is = pixels_length most (length (pixels_of most xs)) ys depth (long ∙ is.whole)
