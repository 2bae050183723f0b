-- Sums of neighbouring columns, and rows that are written from them.
use Rattle.std.proofs.Common.{◌≡◌, ℕ, ◌+◌, ◌*◌, ◌<◌, ◌≤◌, List, length, get_or, set, ap, sym, subst, ◌∙◌, arith, ◌⊎◌, inl, inr}
use Rattle.std.proofs.lemmas.Bool.{cases_lt}
use Rattle.std.proofs.lemmas.List.{get_or-set_same, get_or-set_other, get_or_read}
use Rattle.argb_pixel.specs.Pixel.{Argb, IsPremultiplied, clear}
use Rattle.fx_blur.specs.Sums.{plus, total}
use Rattle.fx_blur.specs.Columns.{Holds, minus}
use Rattle.fx_blur.specs.SumLaws.{total_moved, total_premultiplied, plus_premultiplied, premultiplied_more, minus_plus, holds_part}

-- each column is at most so bright
abbrev pub AreWithin : ℕ → List Argb → Type 0
AreWithin most columns = (k : ℕ) → k < length columns → IsPremultiplied most (get_or columns k clear)

-- the sum of so many columns from a place on
abbrev pub sum_from : List Argb → ℕ → ℕ → Argb
sum_from columns start count = total (λ k. get_or columns (start + k) clear) count

pub sum_within : (most : ℕ) (columns : List Argb) (start count : ℕ) → AreWithin most columns → start + count ≤ length columns
    → IsPremultiplied (most * count) (sum_from columns start count)
sum_within most columns start count within there =
    total_premultiplied most (λ k. get_or columns (start + k) clear) count (λ k l. within (start + k) (omega (arith, l, there)))

-- one column more fits
pub adding_fits : (columns : List Argb) (start count : ℕ) (sum item : Argb) → AreWithin 33554432 columns → start + count < length columns → count < 1025
    → sum ≡ sum_from columns start count → item ≡ get_or columns (start + count) item → IsPremultiplied 1099511627775 (plus sum item)
adding_fits columns start count sum item within there few so_far is =
    premultiplied_more (33554432 * count + 33554432) 1099511627775 (plus sum item) (omega (arith, few))
    (plus_premultiplied (33554432 * count) 33554432 sum item
    (subst (IsPremultiplied (33554432 * count)) (sym so_far) (sum_within 33554432 columns start count within (omega (arith, there))))
    (subst (IsPremultiplied 33554432) (sym (get_or_read columns (start + count) item there is clear)) (within (start + count) there)))

module _ (columns : List Argb) (place count : ℕ) (sum first last whole : Argb) where
  -- the sum with the column that enters is the next sum with the column that leaves
  pub moved_on : place + count < length columns → sum ≡ sum_from columns place count → last ≡ get_or columns (place + count) last
      → first ≡ get_or columns place first → whole ≡ plus sum last → whole ≡ plus (sum_from columns (place + 1) count) first
  moved_on there so_far last_is first_is is =
      is ∙ ap (λ (s : Argb). plus s last) so_far ∙ ap (plus (sum_from columns place count)) (get_or_read columns (place + count) last there last_is clear)
      ∙ total_moved (λ k. get_or columns k clear) place count
      ∙ sym (ap (plus (sum_from columns (place + 1) count)) (get_or_read columns place first (omega (arith, there)) first_is clear))

  pub leaving_holds : whole ≡ plus (sum_from columns (place + 1) count) first → Holds whole first
  leaving_holds is = holds_part whole (sum_from columns (place + 1) count) first is

  pub left_is : whole ≡ plus (sum_from columns (place + 1) count) first → minus whole first ≡ sum_from columns (place + 1) count
  left_is is = ap (λ (s : Argb). minus s first) is ∙ minus_plus (sum_from columns (place + 1) count) first

-- a row that is written from its front
pub written_more : (f : ℕ → Argb) (row : List Argb) (i : ℕ) (v : Argb) → i < length row → ((k : ℕ) → k < i → get_or row k clear ≡ f k) → v ≡ f i
    → (k : ℕ) → k < i + 1 → get_or (set row i v) k clear ≡ f k
written_more f row i v there so_far is k l = by (cases_lt k i)
  where
    by : (k < i) ⊎ (i ≤ k) → get_or (set row i v) k clear ≡ f k
    by (inl low) = get_or-set_other row i k v clear (λ e. omega (arith, low, e)) ∙ so_far k low
    by (inr high) =
        let here : i ≡ k = omega (arith, l, high) in
        ap (λ (j : ℕ). get_or (set row i v) j clear) (sym here) ∙ get_or-set_same row i v clear there ∙ is ∙ ap f here

-- a square of columns
pub square_within : (most side : ℕ) (columns : List Argb) (start : ℕ) (sum : Argb) → AreWithin (most * side) columns → start + side ≤ length columns
    → sum ≡ sum_from columns start side → IsPremultiplied (most * (side * side)) sum
square_within most side columns start sum within there is =
    premultiplied_more (most * side * side) (most * (side * side)) sum (omega arith)
    (subst (IsPremultiplied (most * side * side)) (sym is) (sum_within (most * side) columns start side within there))
