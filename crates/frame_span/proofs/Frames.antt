-- The frames of a file, one after another, and the bytes of a picture.
use Rattle.std.proofs.Common.{◌≡◌, ℕ, zero, suc, ◌+◌, ℤ, pos, ◌+ℤ◌, List, [], ◌∷◌, ◌++◌, true, false, Bool, IsTrue, Option, Some, None, inl, inr, refl, sym, ap, subst, ◌∙◌, arith}
use Rattle.std.proofs.lemmas.List.{append_assoc}
use Rattle.std.specs.Prelude.{flat_map, slice_get, slice_index_or, take, drop, ◌||◌, ◌==◌, ◌⊎◌}
use Rattle.std.specs.List.{range_with_len}
use Rattle.std.proofs.Math.IntN.{+ℤ_idl, +ℤ_idr}
use Rattle.std.proofs.lemmas.Bool.{eqb-true, false≢true}
use Rattle.std.proofs.lemmas.Grind.{flat_map-append}
use Rattle.std.proofs.lemmas.List.{append-nil, take-append-drop}
use Rattle.geom_rect.specs.Rect.{width_of, count_between, positive_part}
use Rattle.geom_rect.specs.declared.rect.Rect.{Rect}
use Rattle.argb_pixel.specs.Pixel.{Argb}
use Rattle.argb_world.specs.Picture.{Picture, at}
use Rattle.frame_file.specs.Afr.{pixel_bytes, row_bytes, picture_bytes, depth_of, world_bytes}
use Rattle.frame_draw.specs.Drawn.{IsFrame}
use Rattle.project_model.specs.Bounds.{most_of, is_bit_depth}
use Rattle.project_model.specs.declared.plain.PlainComp.{PlainComp}
use Rattle.project_model.specs.declared.plain.PlainProject.{PlainProject}
use Rattle.scene_meaning.specs.Shown.{PlainScene, shown}
use Rattle.scene_meaning.specs.Output.{frame_bytes, frame_tick, frame_count, root_of}
use Rattle.frame_span.specs.Written.{IsPrefix}
use Rattle.frame_worker.specs.Window.{AreFrames}
use Rattle.frame_span.proofs.Known.{prefix_trans}

-- one more number at the end of a range, and what a list made from it gains
pub range_more : (a n m j : ℕ) → m ≡ suc n → a + n ≡ j → range_with_len a m ≡ range_with_len a n ++ j ∷ []
range_more a zero m j e k = ap (range_with_len a) e ∙ ap (λ t. t ∷ []) (omega arith)
range_more a (suc n) m j e k = ap (range_with_len a) e ∙ ap (λ xs. a ∷ xs) (range_more (a + 1) n (suc n) j refl (omega arith))

pub pieces_more : (f : ℕ → List ℕ) (a n m j : ℕ) → m ≡ n + 1 → a + n ≡ j → flat_map f (range_with_len a m) ≡ flat_map f (range_with_len a n) ++ f j
pieces_more f a n m j e k =
    ap (flat_map f) (range_more a n m j (omega arith) k)
    ∙ flat_map-append f (range_with_len a n) (j ∷ [])
    ∙ ap (λ xs. flat_map f (range_with_len a n) ++ xs) (append-nil (f j))

-- the pieces of two ranges, one behind the other
pub pieces_both : (f : ℕ → List ℕ) (a n m : ℕ) → flat_map f (range_with_len a n) ++ flat_map f (range_with_len (a + n) m) ≡ flat_map f (range_with_len a (n + m))
pieces_both f a n zero = append-nil (flat_map f (range_with_len a n)) ∙ ap (λ k. flat_map f (range_with_len a k)) (omega arith)
pieces_both f a n (suc m) =
    sym (append_assoc (flat_map f (range_with_len a n)) (f (a + n)) (flat_map f (range_with_len (a + n + 1) m)))
    ∙ ap (λ ys. ys ++ flat_map f (range_with_len (a + n + 1) m)) (sym (pieces_more f a n (n + 1) (a + n) refl refl))
    ∙ ap (λ k. flat_map f (range_with_len a (n + 1)) ++ flat_map f (range_with_len k m)) (omega arith)
    ∙ pieces_both f a (n + 1) m ∙ ap (λ k. flat_map f (range_with_len a k)) (omega arith)

-- what is made of the frames of a window, one after another, is what is made of each frame
pub made_frames : {X : Type 0} (bytes : X → List ℕ) (f : ℕ → List ℕ) (is : ℕ → X → Type 0) → ((n : ℕ) (x : X) → is n x → bytes x ≡ f n)
    → (first count : ℕ) (pieces : List X) → AreFrames is first count pieces → flat_map bytes pieces ≡ flat_map f (range_with_len first count)
made_frames bytes f is right first zero [] fs = refl
made_frames bytes f is right first (suc n) [] fs = let none : ⊥ = omega (arith, fs.counted) in absurd none
made_frames bytes f is right first zero (x ∷ xs) fs = let none : ⊥ = omega (arith, fs.counted) in absurd none
made_frames bytes f is right first (suc n) (x ∷ xs) fs =
    let head : bytes x ≡ f first = right first x (subst (λ k. is k x) (omega arith) (fs.each 0 x (omega arith))) in
    let rest : AreFrames is (first + 1) n xs = record {
      counted = omega (arith, fs.counted);
      each = λ place d le. subst (λ k. is k (slice_index_or xs place d)) (omega arith) (fs.each (suc place) d (omega (arith, le)));
    } in
    ap (λ ys. ys ++ flat_map bytes xs) head ∙ ap (λ ys. f first ++ ys) (made_frames bytes f is right (first + 1) n xs rest)

-- the first pieces are a prefix of all
pub pieces_prefix : (f : ℕ → List ℕ) (a k d n : ℕ) → k + d ≡ n → IsPrefix (flat_map f (range_with_len a k)) (flat_map f (range_with_len a n))
pieces_prefix f a k zero n e =
    ([], append-nil (flat_map f (range_with_len a k)) ∙ ap (λ m. flat_map f (range_with_len a m)) (omega arith))
pieces_prefix f a k (suc d) n e =
    prefix_trans _ (flat_map f (range_with_len a (k + 1))) _
    (f (a + k), sym (pieces_more f a k (k + 1) (a + k) refl refl))
    (pieces_prefix f a (k + 1) d n (omega arith))

-- two functions that agree make the same pieces
flat_map_same : (f g : ℕ → List ℕ) (a n : ℕ) → ((k : ℕ) → f k ≡ g k) → flat_map f (range_with_len a n) ≡ flat_map g (range_with_len a n)
flat_map_same f g a zero h = refl
flat_map_same f g a (suc n) h =
    ap (λ ys. ys ++ flat_map f (range_with_len (a + 1) n)) (h a)
    ∙ ap (λ ys. g a ++ ys) (flat_map_same f g (a + 1) n h)

picture_same : (depth width height : ℕ) (f g : ℤ → ℤ → Argb) → ((x y : ℤ) → f x y ≡ g x y) → picture_bytes depth width height f ≡ picture_bytes depth width height g
picture_same depth width height f g same =
    flat_map_same (λ y. row_bytes depth width (λ x. f x (pos y))) (λ y. row_bytes depth width (λ x. g x (pos y))) 0 height
    (λ y. flat_map_same (λ x. pixel_bytes depth (f (pos x) (pos y))) (λ x. pixel_bytes depth (g (pos x) (pos y))) 0 width
    (λ x. ap (pixel_bytes depth) (same (pos x) (pos y))))

pub count_from_zero : (n : ℕ) → count_between (pos 0) (pos n) ≡ n
count_from_zero n = ap positive_part (+ℤ_idr (pos n))

is_bit_depth-cases : (depth : ℕ) → IsTrue (is_bit_depth depth) → (depth ≡ 8) ⊎ (depth ≡ 16)
is_bit_depth-cases depth bits = either_of (depth == 8) (depth == 16) (eqb-true depth 8) (eqb-true depth 16) bits
  where
    either_of : (a b : Bool) {P Q : Type 0} → (a ≡ true → P) → (b ≡ true → Q) → IsTrue (a || b) → P ⊎ Q
    either_of true b p q h = inl (p refl)
    either_of false true p q h = inr (q refl)
    either_of false false p q h = absurd (false≢true h)

depth_back : (depth : ℕ) → IsTrue (is_bit_depth depth) → depth_of (most_of depth) ≡ depth
depth_back depth bits =
    elim (is_bit_depth-cases depth bits) [
      | inl is_8 ↦ ap (λ d. depth_of (most_of d)) is_8 ∙ sym is_8
      | inr is_16 ↦ ap (λ d. depth_of (most_of d)) is_16 ∙ sym is_16
    ]

-- the root has so many frames
pub count_is : (p : PlainProject) (comp : PlainComp) → root_of p ≡ Some comp → frame_count p ≡ comp.frames
count_is p comp e =
    let count_at : Option PlainComp → ℕ = λ o. elim o [ None ↦ 0 | Some root ↦ root.frames ] in
    ap count_at e

-- a picture that shows a frame has the frame's bytes
frame_of : (most : ℕ) (scene : PlainScene) (n : ℕ) (world : Picture) → most ≡ most_of scene.project.depth → IsTrue (is_bit_depth scene.project.depth)
    → (drawn : IsFrame scene n world) → world_bytes most world ≡ frame_bytes scene drawn.comp n
frame_of most scene n world most_is bits drawn =
    let comp = drawn.comp in
    let depth = scene.project.depth in
    let over : ℕ → Rect → List ℕ = λ d r.
    picture_bytes d (width_of r) (count_between r.top r.bottom) (λ x y. at world (r.left +ℤ x) (r.top +ℤ y)) in
    let here : ℤ → ℤ → Argb = λ x y. at world (pos 0 +ℤ x) (pos 0 +ℤ y) in
    let depth_is : depth_of most ≡ depth = ap depth_of most_is ∙ depth_back depth bits in
    ap (λ d. over d world.part) depth_is
    ∙ ap (over depth) drawn.part
    ∙ ap (λ width. picture_bytes depth width (count_between (pos 0) (pos comp.height)) here) (count_from_zero comp.width)
    ∙ ap (λ height. picture_bytes depth comp.width height here) (count_from_zero comp.height)
    ∙ picture_same depth comp.width comp.height here (shown scene scene.project.root (frame_tick scene.project comp n))
    (λ x y. ap (λ a. at world a (pos 0 +ℤ y)) (+ℤ_idl x) ∙ ap (λ b. at world x b) (+ℤ_idl y) ∙ drawn.points x y)

pub frame_as_bytes : (most : ℕ) (scene : PlainScene) (comp : PlainComp) (n : ℕ) (world : Picture) → most ≡ most_of scene.project.depth
    → IsTrue (is_bit_depth scene.project.depth) → root_of scene.project ≡ Some comp → IsFrame scene n world
    → world_bytes most world ≡ frame_bytes scene comp n
frame_as_bytes most scene comp n world most_is bits root drawn =
    let same : drawn.comp ≡ comp = cc (root, drawn.root) in
    frame_of most scene n world most_is bits drawn ∙ ap (λ c. frame_bytes scene c n) same

take_push : {A : Type 0} (xs : List A) (i : ℕ) (x : A) → slice_get xs i ≡ Some x → take i xs ++ x ∷ [] ≡ take (suc i) xs
take_push [] i x e = let wrong : ⊥ = cc in absurd wrong
take_push (y ∷ ys) zero x e = let same : y ≡ x = cc in ap (λ z. z ∷ []) (sym same)
take_push (y ∷ ys) (suc i) x e = ap (λ l. y ∷ l) (take_push ys i x e)

-- one more of a list after another
pub taken_more : {A : Type 0} (old xs : List A) (i : ℕ) (x : A) → slice_get xs i ≡ Some x → (old ++ take i xs) ++ x ∷ [] ≡ old ++ take (i + 1) xs
taken_more old xs i x e =
    let next : suc i ≡ i + 1 = omega arith in
    append_assoc old (take i xs) (x ∷ []) ∙ ap (λ l. old ++ l) (take_push xs i x e) ∙ ap (λ (n : ℕ). old ++ take n xs) next

-- what is made of one more of a list
pieces_at : {X : Type 0} (f : X → List ℕ) (xs : List X) (i : ℕ) (x : X) → slice_get xs i ≡ Some x → flat_map f (take i xs) ++ f x ≡ flat_map f (take (suc i) xs)
pieces_at f xs i x e =
    ap (λ ys. flat_map f (take i xs) ++ ys) (sym (append-nil (f x))) ∙ sym (flat_map-append f (take i xs) (x ∷ [])) ∙ ap (flat_map f) (take_push xs i x e)

-- it is a prefix of what is made of all
pub piece_is_next : {X : Type 0} (f : X → List ℕ) (xs : List X) (i : ℕ) (x : X) → slice_get xs i ≡ Some x → IsPrefix (flat_map f (take i xs) ++ f x) (flat_map f xs)
piece_is_next f xs i x e = (
  flat_map f (drop (suc i) xs),
  ap (λ ys. ys ++ flat_map f (drop (suc i) xs)) (pieces_at f xs i x e)
      ∙ sym (flat_map-append f (take (suc i) xs) (drop (suc i) xs)) ∙ ap (flat_map f) (take-append-drop (suc i) xs),
)
