-- Sums of columns while a row enters and a row leaves.
use Rattle.std.specs.List.{All}
use Rattle.std.proofs.Common.{◌≡◌, ℕ, suc, ◌+◌, ◌*◌, ◌<◌, ◌≤◌, ℤ, pos, ◌+ℤ◌, List, length, get_or, ap, sym, subst, ◌∙◌, arith, ◌⊎◌, inl, inr}
use Rattle.std.proofs.lemmas.Int.{ints}
use Rattle.std.proofs.lemmas.Bool.{cases_lt}
use Rattle.argb_pixel.specs.Depth.{IsDepth}
use Rattle.argb_pixel.specs.Pixel.{Argb, IsPremultiplied, clear}
use Rattle.argb_world.specs.Picture.{Picture, at, span_of}
use Rattle.argb_world.proofs.Spans.{span_at, length_span}
use Rattle.fx_blur.specs.Sums.{plus, column_sum}
use Rattle.fx_blur.specs.Columns.{Holds, minus, AreColumns}
use Rattle.fx_blur.specs.SumLaws.{total_more, total_first, total_alike, total_premultiplied, premultiplied_more, plus_premultiplied, minus_plus, holds_part}

-- the pixels of a row of points, premultiplied
pub record IsRow (most : ℕ) (pixel : ℤ → ℤ → Argb) (x y : ℤ) (count : ℕ) (row : List Argb) : Type 0 where
  pub pixels : (k : ℕ) → k < count → get_or row k clear ≡ pixel (x +ℤ pos k) y
  pub fits : (k : ℕ) → k < count → IsPremultiplied most (pixel (x +ℤ pos k) y)

pub row_read : (most : ℕ) (p : Picture) (x y : ℤ) (count : ℕ) (row : List Argb) → row ≡ span_of p x y count → All (IsPremultiplied most) row
    → IsRow most (at p) x y count row
row_read most p x y count row is all = record { pixels = pixel; fits = λ k l. subst (IsPremultiplied most) (pixel k l) (all k clear (omega (arith, l, long))) }
  where
    long : length row ≡ count
    long = ap length is ∙ length_span p x y count

    pixel : (k : ℕ) → k < count → get_or row k clear ≡ at p (x +ℤ pos k) y
    pixel k l = ap (λ (ps : List Argb). get_or ps k clear) is ∙ span_at p x y count k l

-- with no rows
pub no_rows : (most : ℕ) (pixel : ℤ → ℤ → Argb) (x y : ℤ) (columns : List Argb) → ((k : ℕ) → k < length columns → get_or columns k clear ≡ clear)
    → AreColumns most pixel x y 0 columns
no_rows most pixel x y columns none = record { sums = none; pixels = λ k j _ l. absurd (omega (arith, l)) }

-- a column is at most so bright
pub column_within : (most : ℕ) (pixel : ℤ → ℤ → Argb) (x y : ℤ) (rows : ℕ) (columns : List Argb) → AreColumns most pixel x y rows columns
    → (k : ℕ) → k < length columns → IsPremultiplied (most * rows) (get_or columns k clear)
column_within most pixel x y rows columns are k l =
    subst (IsPremultiplied (most * rows)) (sym (are.sums k l)) (total_premultiplied most (λ j. pixel (x +ℤ pos k) (y +ℤ pos j)) rows (λ j m. are.pixels k j l m))

pub most_within : (most rows few : ℕ) → IsDepth most → rows ≤ few → most * rows ≤ 32768 * few
most_within most rows few depth le =
    elim depth [ inl e ↦ omega (arith, ap (λ n. n * rows) e) | inr e ↦ omega (arith, ap (λ n. n * rows) e) ]

module _ (most : ℕ) (pixel : ℤ → ℤ → Argb) (x y : ℤ) (rows : ℕ) (columns row now : List Argb) where
  -- one row more
  pub entered : length now ≡ length columns → AreColumns most pixel x y rows columns → IsRow most pixel x (y +ℤ pos rows) (length columns) row
      → ((k : ℕ) → k < length columns → get_or now k clear ≡ plus (get_or columns k clear) (get_or row k clear)) → AreColumns most pixel x y (rows + 1) now
  entered long are below added = record { sums = λ k l. sum k (omega (arith, l, long)); pixels = λ k j l m. fits k j (omega (arith, l, long)) m (cases_lt j rows) }
    where
      sum : (k : ℕ) → k < length columns → get_or now k clear ≡ column_sum pixel (x +ℤ pos k) y (rows + 1)
      sum k l =
          added k l ∙ ap (λ (s : Argb). plus s (get_or row k clear)) (are.sums k l) ∙ ap (plus (column_sum pixel (x +ℤ pos k) y rows)) (below.pixels k l)
          ∙ sym (total_more (λ j. pixel (x +ℤ pos k) (y +ℤ pos j)) rows)

      fits : (k j : ℕ) → k < length columns → j < rows + 1 → (j < rows) ⊎ (rows ≤ j) → IsPremultiplied most (pixel (x +ℤ pos k) (y +ℤ pos j))
      fits k j l m (inl low) = are.pixels k j l low
      fits k j l m (inr high) = let last : rows ≡ j = omega (arith, m, high) in subst (λ n. IsPremultiplied most (pixel (x +ℤ pos k) (y +ℤ pos n))) last (below.fits k l)

  -- it fits
  pub entering_fits : IsDepth most → rows < 1025 → AreColumns most pixel x y rows columns → IsRow most pixel x (y +ℤ pos rows) (length columns) row
      → (k : ℕ) → k < length columns → IsPremultiplied 4294967295 (plus (get_or columns k clear) (get_or row k clear))
  entering_fits depth few are below k l =
      premultiplied_more (most * rows + most) 4294967295 _ (omega (arith, most_within most rows 1024 depth (omega (arith, few)), most_within most 1 1 depth (omega arith)))
      (plus_premultiplied (most * rows) most _ _ (column_within most pixel x y rows columns are k l) (subst (IsPremultiplied most) (sym (below.pixels k l)) (below.fits k l)))

  first_apart : (k : ℕ) → k < length columns → AreColumns most pixel x y (rows + 1) columns → IsRow most pixel x y (length columns) row
      → get_or columns k clear ≡ plus (column_sum pixel (x +ℤ pos k) (y +ℤ pos 1) rows) (get_or row k clear)
  first_apart k l are above =
      are.sums k l ∙ (let e : rows + 1 ≡ suc rows = omega arith in ap (column_sum pixel (x +ℤ pos k) y) e)
      ∙ total_first (λ j. pixel (x +ℤ pos k) (y +ℤ pos j)) rows
      ∙ ap (λ (s : Argb). plus s (pixel (x +ℤ pos k) (y +ℤ pos 0))) (total_alike (λ j. pixel (x +ℤ pos k) (y +ℤ pos (suc j))) (λ j. pixel (x +ℤ pos k) ((y +ℤ pos 1) +ℤ pos j)) rows λ j _.
      let e : y +ℤ pos (suc j) ≡ (y +ℤ pos 1) +ℤ pos j = omega (arith, ints) in ap (pixel (x +ℤ pos k)) e)
      ∙ ap (plus (column_sum pixel (x +ℤ pos k) (y +ℤ pos 1) rows)) ((let e : y +ℤ pos 0 ≡ y = omega (arith, ints) in ap (pixel (x +ℤ pos k)) e) ∙ sym (above.pixels k l))

  -- the first row is part of the sums
  pub leaving_holds : AreColumns most pixel x y (rows + 1) columns → IsRow most pixel x y (length columns) row
      → (k : ℕ) → k < length columns → Holds (get_or columns k clear) (get_or row k clear)
  leaving_holds are above k l = holds_part _ _ _ (first_apart k l are above)

  -- without the first row
  pub left : length now ≡ length columns → AreColumns most pixel x y (rows + 1) columns → IsRow most pixel x y (length columns) row
      → ((k : ℕ) → k < length columns → get_or now k clear ≡ minus (get_or columns k clear) (get_or row k clear)) → AreColumns most pixel x (y +ℤ pos 1) rows now
  left long are above taken = record { sums = λ k l. sum k (omega (arith, l, long)); pixels = λ k j l m. fits k j (omega (arith, l, long)) m }
    where
      sum : (k : ℕ) → k < length columns → get_or now k clear ≡ column_sum pixel (x +ℤ pos k) (y +ℤ pos 1) rows
      sum k l = taken k l ∙ ap (λ (s : Argb). minus s (get_or row k clear)) (first_apart k l are above) ∙ minus_plus _ _

      fits : (k j : ℕ) → k < length columns → j < rows → IsPremultiplied most (pixel (x +ℤ pos k) ((y +ℤ pos 1) +ℤ pos j))
      fits k j l m =
          let e : y +ℤ pos (j + 1) ≡ (y +ℤ pos 1) +ℤ pos j = omega (arith, ints) in
          subst (λ v. IsPremultiplied most (pixel (x +ℤ pos k) v)) e (are.pixels k (j + 1) l (omega (arith, m)))

-- the same sums, at numbers that are equal
pub columns_at : (most : ℕ) (pixel : ℤ → ℤ → Argb) (x x' y y' : ℤ) (rows rows' : ℕ) (columns : List Argb) → x ≡ x' → y ≡ y' → rows ≡ rows'
    → AreColumns most pixel x' y' rows' columns → AreColumns most pixel x y rows columns
columns_at most pixel x x' y y' rows rows' columns ex ey er are =
    subst (λ u. AreColumns most pixel u y rows columns) (sym ex)
    (subst (λ v. AreColumns most pixel x' v rows columns) (sym ey) (subst (λ n. AreColumns most pixel x' y' n columns) (sym er) are))
