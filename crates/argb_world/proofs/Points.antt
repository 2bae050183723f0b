-- Each place of a part is that of a point, so what is at each point tells the pixels.
use Rattle.std.proofs.Common.{◌≡◌, ℕ, zero, suc, ◌+◌, ◌*◌, ◌/◌, ◌%◌, ◌<◌, ℤ, pos, ◌+ℤ◌, List, length, get_or, ap, ap₂, sym, subst, ◌∙◌, arith}
use Rattle.std.proofs.lemmas.List.{ext_get_or}
use Rattle.std.proofs.Math.Nat.{div-lt_iff_lt-mul, mod-lt, mod-add-div}
use Rattle.geom_rect.specs.declared.rect.Rect.{Rect}
use Rattle.geom_rect.specs.Rect.{Has, count_between, area_of, width_of}
use Rattle.argb_pixel.specs.Pixel.{Argb, clear}
use Rattle.argb_world.specs.Picture.{Picture, at, place_of}
use Rattle.argb_world.specs.Laws.{PointsTellThePicture}
use Rattle.argb_world.proofs.Rows.{picture, at_inside, column_above, column_below, column_is}

positive_factor : (w h i : ℕ) → i < w * h → 0 < w
positive_factor zero h i l = absurd (omega arith)
positive_factor (suc w) h i l = omega arith

same_pixels : (e part : Rect) (xs ys : List Argb) → length xs ≡ area_of part → length ys ≡ area_of part
    → ((x y : ℤ) → at (picture e part ys) x y ≡ at (picture e part xs) x y) → ys ≡ xs
same_pixels e part xs ys long also same =
    ext_get_or clear ys xs (also ∙ sym long) λ i l.
    let w = width_of part in
    let low : i < w * count_between part.top part.bottom = omega arith in
    let some = positive_factor w (count_between part.top part.bottom) i low in
    let column : i % w < w = mod-lt i some in
    let row : i / w < count_between part.top part.bottom = (div-lt_iff_lt-mul some).1 (omega arith) in
    let x = part.left +ℤ pos (i % w) in
    let y = part.top +ℤ pos (i / w) in
    let has : Has part x y = (column_above part.left (i % w), column_below part.left part.right (i % w) column, column_above part.top (i / w), column_below part.top part.bottom (i / w) row) in
    let split : (i / w) * w + i % w ≡ i = omega (arith, mod-add-div i w) in
    let place : place_of part x y ≡ i = ap₂ (λ (r c : ℕ). r * w + c) (column_is part.top (i / w)) (column_is part.left (i % w)) ∙ split in
    sym (ap (λ (j : ℕ). get_or ys j clear) place) ∙ sym (at_inside e part ys x y has) ∙ same x y ∙ at_inside e part xs x y has
    ∙ ap (λ (j : ℕ). get_or xs j clear) place

pub points_tell : PointsTellThePicture
points_tell p q p_is q_is frame same =
    let moved : q ≡ picture p.extent p.part q.pixels = ap₂ (λ (e r : Rect). picture e r q.pixels) frame.0 frame.1 in
    moved ∙ ap (λ (l : List Argb). picture p.extent p.part l) (
    same_pixels p.extent p.part p.pixels q.pixels p_is.filled (q_is.filled ∙ ap area_of frame.1) λ x y.
    subst (λ (v : Picture). at v x y ≡ at p x y) moved (same x y)
    )
