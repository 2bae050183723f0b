-- The layers over the rows of a ground, a chunk after another and a row after another.
use Rattle.std.proofs.Common.{◌≡◌, ℕ, ◌+◌, ◌-◌, ◌<◌, ◌≤◌, ℤ, pos, ◌+ℤ◌, ◌-ℤ◌, ◌≤ℤ◌, ◌<ℤ◌, List, length, get_or, refl, ap, sym, ◌∙◌, arith, ◌⊎◌, inl, inr}
use Rattle.std.proofs.lemmas.Int.{ints}
use Rattle.std.proofs.lemmas.Bool.{cases_lt}
use Rattle.geom_rect.specs.declared.rect.Rect.{Rect}
use Rattle.geom_rect.specs.Rect.{Has, positive_part, count_between}
use Rattle.argb_pixel.specs.Pixel.{Argb, clear}
use Rattle.argb_world.specs.Picture.{Picture, at, span_of, HasRow, HasSpan, StaysOffRow, StaysOffSpan}
use Rattle.argb_world.proofs.Places.{positive_part_is}
use Rattle.argb_world.proofs.Rows.{column_below}
use Rattle.argb_world.proofs.Spans.{span_at}
use Rattle.comp_stack.specs.Stack.{PlacedLayer, stack_over}

-- a row of points that was read, laid and set
pub span_stacked : (most : ℕ) (layers : List PlacedLayer) (p q : Picture) (x y : ℤ) (n : ℕ) (before after : List Argb) → before ≡ span_of p x y n
    → length before ≡ n → length after ≡ n
    → ((k : ℕ) → k < length before → get_or after k clear ≡ stack_over most layers (x +ℤ pos k) y (get_or before k clear))
    → span_of q x y (length after) ≡ after → (k : ℕ) → k < n → at q (x +ℤ pos k) y ≡ stack_over most layers (x +ℤ pos k) y (at p (x +ℤ pos k) y)
span_stacked most layers p q x y n before after read short long laid set k l =
    sym (span_at q x y (length after) k (omega (arith, long))) ∙ ap (λ ps. get_or ps k clear) set ∙ laid k (omega (arith, short))
    ∙ ap (stack_over most layers (x +ℤ pos k) y) (ap (λ ps. get_or ps k clear) read ∙ span_at p x y n k l)

-- ---- a chunk after another

pub chunk_there : (part : Rect) (x y : ℤ) (done many : ℕ) → HasRow part y → x ≡ part.left +ℤ pos done → 0 < many → done + many ≤ count_between part.left part.right → HasSpan part x y many
chunk_there part x y done many h is some within =
    let last = column_below part.left part.right (done + (many - 1)) (omega arith) in
    (h, omega (arith, ints, is), omega (arith, ints, is, last, some))

-- what is done is laid, and the rest is as it was
pub record IsStackedTo (most : ℕ) (layers : List PlacedLayer) (part : Rect) (y : ℤ) (done : ℕ) (p q : Picture) : Type 0 where
  pub stacked : (x : ℤ) → Has part x y → x <ℤ (part.left +ℤ pos done) → at q x y ≡ stack_over most layers x y (at p x y)
  pub rest : (x : ℤ) → Has part x y → (part.left +ℤ pos done) ≤ℤ x → at q x y ≡ at p x y

pub chunk_more : (most : ℕ) (layers : List PlacedLayer) (part : Rect) (x0 y : ℤ) (done many : ℕ) (p q r : Picture) → x0 ≡ part.left +ℤ pos done
    → IsStackedTo most layers part y done p q
    → ((k : ℕ) → k < many → at r (x0 +ℤ pos k) y ≡ stack_over most layers (x0 +ℤ pos k) y (at q (x0 +ℤ pos k) y))
    → StaysOffSpan x0 y many q r → IsStackedTo most layers part y (done + many) p r
chunk_more most layers part x0 y done many p q r is so_far span others = record { stacked = stacked; rest = rest }
  where
    rest : (x : ℤ) → Has part x y → (part.left +ℤ pos (done + many)) ≤ℤ x → at r x y ≡ at p x y
    rest x h far = others x y (λ i. omega (arith, ints, is, far, i.2)) ∙ so_far.rest x h (omega (arith, ints, far))

    stacked : (x : ℤ) → Has part x y → x <ℤ (part.left +ℤ pos (done + many)) → at r x y ≡ stack_over most layers x y (at p x y)
    stacked x h near = by (cases_lt (positive_part (x -ℤ part.left)) done)
      where
        column : pos (positive_part (x -ℤ part.left)) ≡ x -ℤ part.left
        column = positive_part_is (x -ℤ part.left) (omega (arith, ints, h.0))

        by : (positive_part (x -ℤ part.left) < done) ⊎ (done ≤ positive_part (x -ℤ part.left)) → at r x y ≡ stack_over most layers x y (at p x y)
        by (inl low) =
            let before : x <ℤ (part.left +ℤ pos done) = omega (arith, ints, column, low) in
            others x y (λ i. omega (arith, ints, is, before, i.1)) ∙ so_far.stacked x h before
        by (inr high) =
            let k = positive_part (x -ℤ part.left) - done in
            let place : x0 +ℤ pos k ≡ x = omega (arith, ints, is, column, high) in
            let l : k < many = omega (arith, ints, column, near, high) in
            ap (λ u. at r u y) (sym place) ∙ span k l ∙ ap (λ u. stack_over most layers u y (at q u y)) place
            ∙ ap (stack_over most layers x y) (so_far.rest x h (omega (arith, ints, column, high)))

pub chunks_init : (most : ℕ) (layers : List PlacedLayer) (part : Rect) (y : ℤ) (p : Picture) → IsStackedTo most layers part y 0 p p
chunks_init most layers part y p = record { stacked = λ x h low. absurd (omega (arith, ints, h.0, low)); rest = λ x h far. refl }

pub chunks_all : (most : ℕ) (layers : List PlacedLayer) (part : Rect) (y : ℤ) (done : ℕ) (p q : Picture) → IsStackedTo most layers part y done p q
    → count_between part.left part.right ≤ done → (x : ℤ) → Has part x y → at q x y ≡ stack_over most layers x y (at p x y)
chunks_all most layers part y done p q so_far all x h =
    let columns = positive_part_is (part.right -ℤ part.left) (omega (arith, ints, h.0, h.1)) in
    so_far.stacked x h (omega (arith, ints, columns, all, h.1))

-- ---- a row after another

pub row_there : (part : Rect) (y : ℤ) (k : ℕ) → y ≡ part.top +ℤ pos k → k < count_between part.top part.bottom → HasRow part y
row_there part y k is l =
    let low = column_below part.top part.bottom k l in
    (omega (arith, ints, is), omega (arith, ints, is, low))

pub record AreStackedTo (most : ℕ) (layers : List PlacedLayer) (part : Rect) (done : ℕ) (p q : Picture) : Type 0 where
  pub stacked : (x y : ℤ) → Has part x y → y <ℤ (part.top +ℤ pos done) → at q x y ≡ stack_over most layers x y (at p x y)
  pub rest : (x y : ℤ) → Has part x y → (part.top +ℤ pos done) ≤ℤ y → at q x y ≡ at p x y

pub row_more : (most : ℕ) (layers : List PlacedLayer) (part : Rect) (y0 : ℤ) (done : ℕ) (p q r : Picture) → y0 ≡ part.top +ℤ pos done
    → AreStackedTo most layers part done p q → ((x : ℤ) → Has part x y0 → at r x y0 ≡ stack_over most layers x y0 (at q x y0)) → StaysOffRow y0 q r
    → AreStackedTo most layers part (done + 1) p r
row_more most layers part y0 done p q r is so_far row others = record { stacked = stacked; rest = rest }
  where
    rest : (x y : ℤ) → Has part x y → (part.top +ℤ pos (done + 1)) ≤ℤ y → at r x y ≡ at p x y
    rest x y h far = others x y (λ e. omega (arith, ints, is, far, e)) ∙ so_far.rest x y h (omega (arith, ints, far))

    stacked : (x y : ℤ) → Has part x y → y <ℤ (part.top +ℤ pos (done + 1)) → at r x y ≡ stack_over most layers x y (at p x y)
    stacked x y h near = by (cases_lt (positive_part (y -ℤ part.top)) done)
      where
        rows : pos (positive_part (y -ℤ part.top)) ≡ y -ℤ part.top
        rows = positive_part_is (y -ℤ part.top) (omega (arith, ints, h.2))

        by : (positive_part (y -ℤ part.top) < done) ⊎ (done ≤ positive_part (y -ℤ part.top)) → at r x y ≡ stack_over most layers x y (at p x y)
        by (inl low) =
            let before : y <ℤ (part.top +ℤ pos done) = omega (arith, ints, rows, low) in
            others x y (λ e. omega (arith, ints, is, before, e)) ∙ so_far.stacked x y h before
        by (inr high) =
            let place : y0 ≡ y = omega (arith, ints, is, rows, near, high) in
            let there : Has part x y0 = (h.0, h.1, omega (arith, ints, place, h.2), omega (arith, ints, place, h.3)) in
            ap (at r x) (sym place) ∙ row x there ∙ ap (λ v. stack_over most layers x v (at q x v)) place
            ∙ ap (stack_over most layers x y) (so_far.rest x y h (omega (arith, ints, rows, high)))

pub rows_init : (most : ℕ) (layers : List PlacedLayer) (part : Rect) (p : Picture) → AreStackedTo most layers part 0 p p
rows_init most layers part p = record { stacked = λ x y h low. absurd (omega (arith, ints, h.2, low)); rest = λ x y h far. refl }

pub rows_all : (most : ℕ) (layers : List PlacedLayer) (part : Rect) (done : ℕ) (p q : Picture) → AreStackedTo most layers part done p q
    → count_between part.top part.bottom ≤ done → (x y : ℤ) → Has part x y → at q x y ≡ stack_over most layers x y (at p x y)
rows_all most layers part done p q so_far all x y h =
    let rows = positive_part_is (part.bottom -ℤ part.top) (omega (arith, ints, h.2, h.3)) in
    so_far.stacked x y h (omega (arith, ints, rows, all, h.3))
