-- The pixels of a picture, row under row, and the sums of their channels.
use Rattle.std.proofs.Common.{◌≡◌, ℕ, zero, suc, ◌+◌, ◌*◌, ◌<◌, ◌≤◌, ◌^◌, ℤ, pos, ◌+ℤ◌, List, [], ◌∷◌, ◌++◌, Some, length, map, take, refl, sym, ap, ap₂, subst, ◌∙◌, inl, inr, arith, length-append}
use Rattle.std.specs.Prelude.{flat_map, get_or}
use Rattle.std.specs.List.{All, range_with_len, sum_by}
use Rattle.std.proofs.lemmas.List.{append-nil, take_more}
use Rattle.std.proofs.lemmas.Grind.{flat_map-append}
use Rattle.std.proofs.lemmas.List.FromFn.{get_or-map-range_with_len, length-map-range_with_len}
use Rattle.std.proofs.lemmas.List.Sums.{sum_by-append, sum_by-le}
use Rattle.std.proofs.lemmas.List.Elements.{All-append, All-from_get_or}
use Rattle.std.proofs.Math.Nat.{mul-le-mul_right}
use Rattle.std.proofs.Math.IntN.{+ℤ_idl}
use Rattle.geom_rect.specs.Rect.{frame_rect, width_of, count_between, area_of}
use Rattle.geom_rect.specs.declared.rect.Rect.{Rect}
use Rattle.argb_pixel.specs.Pixel.{Argb, IsPremultiplied, clear}
use Rattle.argb_pixel.specs.Depth.{IsDepth}
use Rattle.argb_world.specs.Picture.{Picture, at, greatest_part, row_of, span_of}
use Rattle.project_model.specs.declared.plain.PlainComp.{PlainComp}
use Rattle.scene_meaning.specs.Shown.{PlainScene, shown}
use Rattle.scene_meaning.specs.Output.{frame_tick, root_of}
use Rattle.frame_draw.specs.Drawn.{IsFrame}
use Rattle.frame_span.specs.Lines.{frame_pixels}
use Rattle.frame_span.specs.Sums.{AreAtMost, both_sums, first_rows, sums_of}
use Rattle.frame_span.specs.declared.sums.Sums.{Sums}
use Rattle.frame_span.proofs.Frames.{count_from_zero, range_more}

-- ---- sums

make : ℕ → ℕ → ℕ → ℕ → Sums
make a r g b = record { a = a; r = r; g = g; b = b }

sums_same : (a b c d e f g h : ℕ) → a ≡ e → b ≡ f → c ≡ g → d ≡ h → make a b c d ≡ make e f g h
sums_same a b c d e f g h p q r s = ap (λ n. make n b c d) p ∙ ap (λ n. make e n c d) q ∙ ap (λ n. make e f n d) r ∙ ap (make e f g) s

pub sums_both : (xs ys : List Argb) → both_sums (sums_of xs) (sums_of ys) ≡ sums_of (xs ++ ys)
unfolding make
sums_both xs ys =
    sums_same _ _ _ _ _ _ _ _ (sym (sum_by-append (λ p. p.a) xs ys)) (sym (sum_by-append (λ p. p.r) xs ys)) (sym (sum_by-append (λ p. p.g) xs ys))
    (sym (sum_by-append (λ p. p.b) xs ys))

-- the sums of some pixels of a row, with the next
pub sums_next : (pixels : List Argb) (i : ℕ) (p : Argb) → i < length pixels → p ≡ get_or pixels i clear
    → both_sums (sums_of (take i pixels)) (sums_of (p ∷ [])) ≡ sums_of (take (i + 1) pixels)
sums_next pixels i p l is =
    sums_both (take i pixels) (p ∷ []) ∙ ap (λ q. sums_of (take i pixels ++ q ∷ [])) is ∙ ap sums_of (sym (take_more pixels i clear l))

-- a depth's channels have at most 16 bits
depth_within : (most : ℕ) → IsDepth most → most ≤ 32768
depth_within most depth = elim depth [ inl e ↦ omega (arith, e) | inr e ↦ omega (arith, e) ]

-- the sums of so many pixels
pub few_sums : (most n : ℕ) (pixels : List Argb) → IsDepth most → All (IsPremultiplied most) pixels → length pixels ≤ n → n ≤ 2 ^ 32 → AreAtMost (2 ^ 62) (sums_of pixels)
few_sums most n pixels depth each long few = record {
  alpha = below (λ p. p.a) (λ p is. is.alpha);
  red = below (λ p. p.r) (λ p is. omega (arith, is.alpha, is.red));
  green = below (λ p. p.g) (λ p is. omega (arith, is.alpha, is.green));
  blue = below (λ p. p.b) (λ p is. omega (arith, is.alpha, is.blue));
}
  where
    below : (f : Argb → ℕ) → ((p : Argb) → IsPremultiplied most p → f p ≤ most) → sum_by f pixels ≤ 2 ^ 62
    below f small =
        let h : sum_by f pixels ≤ length pixels * 32768 = sum_by-le f 32768 pixels (λ k d l.
        let one : f (get_or pixels k d) ≤ most = small _ (each k d l) in omega (arith, one, depth_within most depth)) in
        omega (arith, h, long, few)

-- ---- rows

pub long_row : (picture : Picture) (y : ℤ) → length (row_of picture y) ≡ width_of picture.part
long_row picture y = length-map-range_with_len (λ k. at picture (picture.part.left +ℤ pos k) y) 0 (width_of picture.part)

pub rows_more : (picture : Picture) (n : ℕ) → first_rows picture n ++ row_of picture (pos n) ≡ first_rows picture (n + 1)
rows_more picture n = sym (lists_more (λ y. row_of picture (pos y)) 0 n (n + 1) n refl (omega arith))
  where
    lists_more : {A : Type 0} (f : ℕ → List A) (a n m j : ℕ) → m ≡ n + 1 → a + n ≡ j → flat_map f (range_with_len a m) ≡ flat_map f (range_with_len a n) ++ f j
    lists_more f a n m j e k =
        ap (flat_map f) (range_more a n m j (omega arith) k)
        ∙ flat_map-append f (range_with_len a n) (j ∷ [])
        ∙ ap (λ xs. flat_map f (range_with_len a n) ++ xs) (append-nil (f j))

pub long_rows : (picture : Picture) (n : ℕ) → length (first_rows picture n) ≡ n * width_of picture.part
long_rows picture zero = omega arith
long_rows picture (suc n) =
    ap (λ m. length (first_rows picture m)) (let e : suc n ≡ n + 1 = omega arith in e) ∙ ap length (sym (rows_more picture n))
    ∙ length-append (first_rows picture n) (row_of picture (pos n))
    ∙ ap₂ (λ (a b : ℕ). a + b) (long_rows picture n) (long_row picture (pos n)) ∙ omega arith

pub all_row : (P : Argb → Type 0) (picture : Picture) → ((x y : ℤ) → P (at picture x y)) → (y : ℤ) → All P (row_of picture y)
all_row P picture each y = All-from_get_or P (row_of picture y) clear λ k l.
    let low : k < width_of picture.part = omega (arith, l, long_row picture y) in
    subst P (sym (get_or-map-range_with_len (λ k. at picture (picture.part.left +ℤ pos k) y) 0 (width_of picture.part) k k clear low (omega arith)))
    (each (picture.part.left +ℤ pos k) y)

pub all_rows : (P : Argb → Type 0) (picture : Picture) → ((x y : ℤ) → P (at picture x y)) → (n : ℕ) → All P (first_rows picture n)
all_rows P picture each zero = λ k d l. absurd (omega (arith, l))
all_rows P picture each (suc n) =
    subst (All P) (rows_more picture n ∙ ap (first_rows picture) (let e : n + 1 ≡ suc n = omega arith in e))
    (All-append P (first_rows picture n) (row_of picture (pos n)) (all_rows P picture each n) (all_row P picture each (pos n)))

-- some rows of a picture over a frame are no more pixels than a picture may have
pub few_rows : (picture : Picture) (width height n : ℕ) → picture.part ≡ frame_rect width height → area_of picture.part ≤ greatest_part → n ≤ height
    → length (first_rows picture n) ≤ greatest_part
few_rows picture width height n part small low =
    let area : area_of picture.part ≡ width_of picture.part * height =
    ap (λ (r : Rect). width_of picture.part * count_between r.top r.bottom) part ∙ ap (λ h. width_of picture.part * h) (count_from_zero height) in
    let some : n * width_of picture.part ≤ height * width_of picture.part = mul-le-mul_right (width_of picture.part) low in
    omega (arith, long_rows picture n, area, some, small)

-- ---- a frame

lists_same : {A : Type 0} (f g : ℕ → List A) (a n : ℕ) → ((k : ℕ) → f k ≡ g k) → flat_map f (range_with_len a n) ≡ flat_map g (range_with_len a n)
lists_same f g a zero h = refl
lists_same f g a (suc n) h =
    ap (λ ys. ys ++ flat_map f (range_with_len (a + 1) n)) (h a) ∙ ap (λ ys. g a ++ ys) (lists_same f g (a + 1) n h)

row_same : (f g : ℕ → Argb) (a n : ℕ) → ((k : ℕ) → f k ≡ g k) → map f (range_with_len a n) ≡ map g (range_with_len a n)
row_same f g a zero h = refl
row_same f g a (suc n) h = ap (λ p. p ∷ map f (range_with_len (a + 1) n)) (h a) ∙ ap (λ ps. g a ∷ ps) (row_same f g (a + 1) n h)

-- the rows of a picture that shows a frame are the frame's pixels
rows_of_frame : (scene : PlainScene) (n : ℕ) (world : Picture) → (drawn : IsFrame scene n world) → first_rows world drawn.comp.height ≡ frame_pixels scene drawn.comp n
rows_of_frame scene n world drawn =
    let comp = drawn.comp in
    lists_same (λ y. row_of world (pos y)) _ 0 comp.height λ y.
    ap (λ (r : Rect). span_of world r.left (pos y) (width_of r)) drawn.part
    ∙ ap (span_of world (pos 0) (pos y)) (count_from_zero comp.width)
    ∙ row_same (λ k. at world (pos 0 +ℤ pos k) (pos y)) _ 0 comp.width λ k. drawn.points (pos 0 +ℤ pos k) (pos y)
    ∙ ap (λ x. shown scene scene.project.root (frame_tick scene.project comp n) x (pos y)) (+ℤ_idl (pos k))

pub frame_as_rows : (scene : PlainScene) (comp : PlainComp) (n : ℕ) (world : Picture) → root_of scene.project ≡ Some comp → IsFrame scene n world
    → first_rows world comp.height ≡ frame_pixels scene comp n
frame_as_rows scene comp n world root drawn =
    let same : drawn.comp ≡ comp = cc (root, drawn.root) in
    subst (λ (c : PlainComp). first_rows world c.height ≡ frame_pixels scene c n) same (rows_of_frame scene n world drawn)

-- it is over the frame of that composition
pub frame_part : (scene : PlainScene) (comp : PlainComp) (n : ℕ) (world : Picture) → root_of scene.project ≡ Some comp → IsFrame scene n world
    → world.part ≡ frame_rect comp.width comp.height
frame_part scene comp n world root drawn =
    let same : drawn.comp ≡ comp = cc (root, drawn.root) in
    drawn.part ∙ ap (λ (c : PlainComp). frame_rect c.width c.height) same
