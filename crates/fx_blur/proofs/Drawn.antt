-- What a row that is set shows.
use Rattle.std.proofs.Common.{◌≡◌, ℕ, ◌+◌, ◌*◌, ◌<◌, ◌≤◌, ℤ, pos, ◌+ℤ◌, ◌-ℤ◌, ◌≤ℤ◌, ◌<ℤ◌, List, length, get_or, ap, sym, ◌∙◌, arith}
use Rattle.std.proofs.lemmas.Int.{ints}
use Rattle.geom_rect.specs.declared.rect.Rect.{Rect}
use Rattle.geom_rect.specs.Rect.{Has, positive_part, count_between, width_of}
use Rattle.argb_pixel.specs.Pixel.{Argb, clear}
use Rattle.argb_world.specs.Picture.{Picture, at, span_of, row_of}
use Rattle.argb_world.proofs.Places.{positive_part_is, below}
use Rattle.argb_world.proofs.Spans.{span_at}
use Rattle.comp_stack.specs.Layers.{plane_of}
use Rattle.fx_blur.specs.Sums.{total, column_sum, mean_of}
use Rattle.fx_blur.specs.Blur.{across, blur_at}
use Rattle.fx_blur.specs.Columns.{AreColumns, ServesBand}
use Rattle.fx_blur.specs.SumLaws.{total_alike}
use Rattle.fx_blur.specs.Laws.{window_along}
use Rattle.fx_blur.proofs.Adding.{sum_from}

-- a point of the row at its place
pub row_shows : (q : Picture) (part : Rect) (y : ℤ) (row : List Argb) → q.part ≡ part → row_of q y ≡ row
    → (x : ℤ) → Has part x y → at q x y ≡ get_or row (positive_part (x -ℤ part.left)) clear
row_shows q part y row same set x h =
    let far = positive_part_is (x -ℤ part.left) (omega (arith, ints, h.0)) in
    let place : part.left +ℤ pos (positive_part (x -ℤ part.left)) ≡ x = omega (arith, ints, far) in
    let there : span_of q part.left y (width_of part) ≡ row = ap (λ (r : Rect). span_of q r.left y (width_of r)) (sym same) ∙ set in
    ap (λ u. at q u y) (sym place) ∙ sym (span_at q part.left y (width_of part) (positive_part (x -ℤ part.left)) (below part.left part.right x h.0 h.1))
    ∙ ap (λ (ps : List Argb). get_or ps (positive_part (x -ℤ part.left)) clear) there

-- the mean of the columns of a window is the blurred pixel
pub window_mean : (most radius : ℕ) (p : Picture) (left x y : ℤ) (i : ℕ) (columns : List Argb) → left +ℤ pos i ≡ x → i + across radius ≤ length columns
    → AreColumns most (at p) (left -ℤ pos radius) (y -ℤ pos radius) (across radius) columns
    → mean_of (across radius * across radius) (sum_from columns i (across radius)) ≡ blur_at radius (plane_of p) x y
window_mean most radius p left x y i columns place there are =
    ap (mean_of (across radius * across radius))
    (total_alike (λ k. get_or columns (i + k) clear) column (across radius) same ∙ ap (total column) (sym (window_along radius x)))
  where
    column : ℕ → Argb
    column k = column_sum (at p) ((x -ℤ pos radius) +ℤ pos k) (y -ℤ pos radius) (count_between (y -ℤ pos radius) (y +ℤ pos (radius + 1)))

    same : (k : ℕ) → k < across radius → get_or columns (i + k) clear ≡ column k
    same k l =
        let e : (left -ℤ pos radius) +ℤ pos (i + k) ≡ (x -ℤ pos radius) +ℤ pos k = omega (arith, ints, place) in
        are.sums (i + k) (omega (arith, l, there))
        ∙ ap (λ u. column_sum (at p) u (y -ℤ pos radius) (across radius)) e
        ∙ ap (column_sum (at p) ((x -ℤ pos radius) +ℤ pos k) (y -ℤ pos radius)) (sym (window_along radius y))

-- a row of means
pub blur_shown : (most radius : ℕ) (p q : Picture) (part : Rect) (y : ℤ) (columns row : List Argb) → q.part ≡ part → row_of q y ≡ row
    → length columns ≡ width_of part + across radius → AreColumns most (at p) (part.left -ℤ pos radius) (y -ℤ pos radius) (across radius) columns
    → ((i : ℕ) → i < width_of part → get_or row i clear ≡ mean_of (across radius * across radius) (sum_from columns i (across radius)))
    → (x : ℤ) → Has part x y → at q x y ≡ blur_at radius (plane_of p) x y
blur_shown most radius p q part y columns row same set long are means x h =
    let far = positive_part_is (x -ℤ part.left) (omega (arith, ints, h.0)) in
    let near = below part.left part.right x h.0 h.1 in
    row_shows q part y row same set x h ∙ means (positive_part (x -ℤ part.left)) near
    ∙ window_mean most radius p part.left x y (positive_part (x -ℤ part.left)) columns (omega (arith, ints, far)) (omega (arith, near, long)) are

-- a row that serves the height
pub served_shown : (drawing : ℤ → ℤ → Argb) (q : Picture) (part : Rect) (low high y : ℤ) (row : List Argb) → q.part ≡ part → row_of q y ≡ row
    → length row ≡ width_of part → ServesBand drawing part.left low high row → low ≤ℤ y → y <ℤ high
    → (x : ℤ) → Has part x y → at q x y ≡ drawing x y
served_shown drawing q part low high y row same set long serves first last x h =
    let far = positive_part_is (x -ℤ part.left) (omega (arith, ints, h.0)) in
    let near = below part.left part.right x h.0 h.1 in
    let place : part.left +ℤ pos (positive_part (x -ℤ part.left)) ≡ x = omega (arith, ints, far) in
    row_shows q part y row same set x h ∙ serves y first last (positive_part (x -ℤ part.left)) (omega (arith, near, long)) ∙ ap (λ u. drawing u y) place
