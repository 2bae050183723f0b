-- A drawing over the rows of a picture, a row after another.
use Rattle.std.proofs.Common.{◌≡◌, ℕ, ◌+◌, ◌<◌, ◌≤◌, ℤ, pos, ◌+ℤ◌, ◌-ℤ◌, ◌<ℤ◌, List, length, map, get_or, ap, sym, ◌∙◌, arith, ◌⊎◌, inl, inr}
use Rattle.std.proofs.lemmas.Int.{ints}
use Rattle.std.proofs.lemmas.Bool.{cases_lt}
use Rattle.std.proofs.lemmas.List.{get_or-map}
use Rattle.geom_rect.specs.declared.rect.Rect.{Rect}
use Rattle.geom_rect.specs.Rect.{Has, positive_part, count_between, width_of}
use Rattle.argb_pixel.specs.Pixel.{Argb, clear}
use Rattle.argb_world.specs.Picture.{Picture, at, span_of, row_of, HasRow, StaysOffRow}
use Rattle.argb_world.proofs.Places.{positive_part_is}
use Rattle.argb_world.proofs.Rows.{column_below}
use Rattle.argb_world.proofs.Spans.{span_at}

-- a row that was read, changed and set
pub row_changed : (f : Argb → Argb) (p q : Picture) (part : Rect) (y : ℤ) (before after : List Argb) → q.part ≡ part
    → before ≡ span_of p part.left y (width_of part) → after ≡ map f before → length before ≡ width_of part → row_of q y ≡ after
    → (x : ℤ) → Has part x y → at q x y ≡ f (at p x y)
row_changed f p q part y before after same read changed long set x h =
    let k : ℕ = positive_part (x -ℤ part.left) in
    let k_is : pos k ≡ x -ℤ part.left = positive_part_is (x -ℤ part.left) (omega (arith, ints, h.0)) in
    let w_is : pos (width_of part) ≡ part.right -ℤ part.left = positive_part_is (part.right -ℤ part.left) (omega (arith, ints, h.0, h.1)) in
    let l : k < width_of part = omega (arith, ints, k_is, w_is, h.1) in
    let place : part.left +ℤ pos k ≡ x = omega (arith, ints, k_is) in
    let there : span_of q part.left y (width_of part) ≡ after = ap (λ (r : Rect). span_of q r.left y (width_of r)) (sym same) ∙ set in
    ap (λ u. at q u y) (sym place) ∙ sym (span_at q part.left y (width_of part) k l) ∙ ap (λ ps. get_or ps k clear) (there ∙ changed)
    ∙ get_or-map f before k clear clear (omega (arith, l, long)) ∙ ap f (ap (λ ps. get_or ps k clear) read ∙ span_at p part.left y (width_of part) k l ∙ ap (λ u. at p u y) place)

pub row_there : (part : Rect) (y : ℤ) (k : ℕ) → y ≡ part.top +ℤ pos k → k < count_between part.top part.bottom → HasRow part y
row_there part y k is l =
    let low = column_below part.top part.bottom k l in
    (omega (arith, ints, is), omega (arith, ints, is, low))

-- the rows above are drawn
abbrev pub AreDrawnTo : (ℤ → ℤ → Argb) → Rect → ℕ → Picture → Type 0
AreDrawnTo f part done q = (x y : ℤ) → Has part x y → y <ℤ (part.top +ℤ pos done) → at q x y ≡ f x y

pub row_more : (f : ℤ → ℤ → Argb) (part : Rect) (y0 : ℤ) (done : ℕ) (q r : Picture) → y0 ≡ part.top +ℤ pos done
    → AreDrawnTo f part done q → ((x : ℤ) → Has part x y0 → at r x y0 ≡ f x y0) → StaysOffRow y0 q r → AreDrawnTo f part (done + 1) r
row_more f part y0 done q r is so_far row others x y h near = by (cases_lt (positive_part (y -ℤ part.top)) done)
  where
    rows : pos (positive_part (y -ℤ part.top)) ≡ y -ℤ part.top
    rows = positive_part_is (y -ℤ part.top) (omega (arith, ints, h.2))

    by : (positive_part (y -ℤ part.top) < done) ⊎ (done ≤ positive_part (y -ℤ part.top)) → at r x y ≡ f x y
    by (inl low) =
        let before : y <ℤ (part.top +ℤ pos done) = omega (arith, ints, rows, low) in
        others x y (λ e. omega (arith, ints, is, before, e)) ∙ so_far x y h before
    by (inr high) =
        let place : y0 ≡ y = omega (arith, ints, is, rows, near, high) in
        let there : Has part x y0 = (h.0, h.1, omega (arith, ints, place, h.2), omega (arith, ints, place, h.3)) in
        ap (at r x) (sym place) ∙ row x there ∙ ap (f x) place

pub rows_init : (f : ℤ → ℤ → Argb) (part : Rect) (q : Picture) → AreDrawnTo f part 0 q
rows_init f part q x y h low = absurd (omega (arith, ints, h.2, low))

pub rows_all : (f : ℤ → ℤ → Argb) (part : Rect) (done : ℕ) (q : Picture) → AreDrawnTo f part done q
    → count_between part.top part.bottom ≤ done → (x y : ℤ) → Has part x y → at q x y ≡ f x y
rows_all f part done q so_far all x y h =
    let rows = positive_part_is (part.bottom -ℤ part.top) (omega (arith, ints, h.2, h.3)) in
    so_far x y h (omega (arith, ints, rows, all, h.3))
