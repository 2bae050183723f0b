-- The packed rows of a picture, one after another, are the bytes of its pixels.
use Rattle.std.proofs.Common.{◌≡◌, ℕ, zero, suc, ◌+◌, ◌*◌, ◌<◌, ℤ, pos, ◌+ℤ◌, List, ◌++◌, length, drop, refl, ap, ap₂, sym, ◌∙◌, arith}
use Rattle.std.specs.Prelude.{flat_map}
use Rattle.std.specs.List.{between, range_with_len}
use Rattle.std.proofs.lemmas.List.{drop_all, drop-drop, take-append-drop}
use Rattle.std.proofs.lemmas.Grind.{flat_map-append}
use Rattle.geom_rect.specs.Rect.{count_between, width_of}
use Rattle.argb_pixel.specs.Pixel.{Argb}
use Rattle.argb_pixel.specs.Packed.{packed}
use Rattle.argb_pixel.proofs.Bytes.{read_and_packed}
use Rattle.argb_pixel.proofs.Places.{between_part}
use Rattle.argb_world.specs.Picture.{Picture, IsPicture, HasRow, row_of}
use Rattle.argb_world.specs.Laws.{PackedRowsAreThePicture, rows_down}
use Rattle.argb_world.proofs.Rows.{column_above, column_below, column_is}
use Rattle.argb_world.proofs.Spans.{row_is_between, start_is}

-- a row and what is after it
row_and_rest : (xs : List Argb) (w a : ℕ) → between (a * w) (a * w + w) xs ++ drop ((a + 1) * w) xs ≡ drop (a * w) xs
row_and_rest xs w a =
    ap₂ (λ u v. u ++ v) (sym (between_part xs (a * w) w)) (ap (λ n. drop n xs) (omega arith) ∙ sym (drop-drop w (a * w) xs))
    ∙ take-append-drop w (drop (a * w) xs)

-- the rows from one on, where each is the bytes of its pixels
rows_from : (pack : Argb → List ℕ) (row : ℕ → List ℕ) (xs : List Argb) (w n a : ℕ) → length xs ≡ (a + n) * w
    → ((k : ℕ) → k < a + n → row k ≡ flat_map pack (between (k * w) (k * w + w) xs))
    → flat_map row (range_with_len a n) ≡ flat_map pack (drop (a * w) xs)
rows_from pack row xs w zero a long each = ap (flat_map pack) (sym (drop_all (a * w) xs (omega (arith, long))))
rows_from pack row xs w (suc n) a long each =
    let next : length xs ≡ (a + 1 + n) * w = omega (arith, long) in
    ap₂ (λ u v. u ++ v) (each a (omega arith)) (rows_from pack row xs w n (a + 1) next λ k l. each k (omega (arith, l)))
    ∙ sym (flat_map-append pack (between (a * w) (a * w + w) xs) (drop ((a + 1) * w) xs))
    ∙ ap (flat_map pack) (row_and_rest xs w a)

-- the same from the top of a picture on
pub picture_rows : (pack : Argb → List ℕ) (p : Picture) (row : ℤ → List ℕ) → IsPicture p
    → ((y : ℤ) → HasRow p.part y → row y ≡ flat_map pack (row_of p y)) → rows_down p.part row ≡ flat_map pack p.pixels
picture_rows pack p row is each =
    rows_from pack (λ k. row (p.part.top +ℤ pos k)) p.pixels w (count_between p.part.top p.part.bottom) 0 (omega (arith, is.filled)) one
    ∙ ap (λ n. flat_map pack (drop n p.pixels)) (let none : 0 * w ≡ 0 = omega arith in none)
  where
    w : ℕ
    w = width_of p.part

    one : (k : ℕ) → k < 0 + count_between p.part.top p.part.bottom → row (p.part.top +ℤ pos k) ≡ flat_map pack (between (k * w) (k * w + w) p.pixels)
    one k l =
        let y = p.part.top +ℤ pos k in
        let low : k < count_between p.part.top p.part.bottom = omega (arith, l) in
        let there : HasRow p.part y = (column_above p.part.top k, column_below p.part.top p.part.bottom k low) in
        let start = ap (λ n. n * w) (sym (column_is p.part.top k)) ∙ sym (start_is p.part y) in
        each y there ∙ ap (flat_map pack) (sym (row_is_between p.extent p.part p.pixels y (k * w) w there is.filled start refl))

pub packed_rows : PackedRowsAreThePicture
packed_rows most p row depth is each =
    picture_rows (packed most) p row is λ y there.
    let bytes = each y there in
    sym (read_and_packed most (row y) depth bytes.packed bytes.small) ∙ ap (flat_map (packed most)) bytes.pixels
