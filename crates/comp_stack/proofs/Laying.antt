-- A layer over a row of points.
use Rattle.std.proofs.Common.{◌≡◌, ℕ, ◌+◌, ◌-◌, ◌<◌, ◌≤◌, ℤ, pos, ◌+ℤ◌, List, length, map, take, drop, get_or, ap, sym, ◌∙◌, arith, ◌⊎◌, inl, inr, false}
use Rattle.std.proofs.Common.{ap₂, length-drop}
use Rattle.std.proofs.lemmas.Int.{ints}
use borrow.Rule.Slice.PartMut.{put_mid}
use lib.Lanes.{zip2}
use Rattle.std.proofs.lemmas.Simd.{get_or-zip2}
use Rattle.std.proofs.lemmas.Bool.{cases_lt}
use Rattle.std.proofs.lemmas.List.{get_or-map, get_or-take, get_or-drop, length-take-le}
use Rattle.std.proofs.lemmas.List.FromFn.{length-map-range_with_len, get_or-map-range_with_len}
use Rattle.argb_pixel.specs.Depth.{IsDepth}
use Rattle.argb_pixel.specs.Pixel.{Argb, clear, scale_of}
use Rattle.argb_world.proofs.Spans.{written_below, written_inside, written_above}
use Rattle.transfer_mode.specs.Transfer.{blend_of}
use Rattle.transfer_mode.specs.Laws.{is_stencil}
use Rattle.transfer_mode.proofs.Rules.{transparent_leaves}
use Rattle.track_matte.specs.Mattes.{matted}
use Rattle.comp_stack.proofs.Nothing.{scale_none, scale_clear, matted_clear}
use Rattle.comp_stack.specs.Stack.{PlacedLayer, pixel_at, matte_at, source_at, step}
use Rattle.comp_stack.specs.Spans.{source_span}

pub row_laid : (most : ℕ) (layer : PlacedLayer) (x y : ℤ) (old source new : List Argb) (n : ℕ) → n ≡ length old → source ≡ source_span most layer x y n
    → new ≡ zip2 (blend_of most layer.mode) source old
    → (k : ℕ) → k < length old → get_or new k clear ≡ step most layer (x +ℤ pos k) y (get_or old k clear)
row_laid most layer x y old source new n long read made k l =
    let f : ℕ → Argb = λ j. source_at most layer (x +ℤ pos j) y in
    let all : length source ≡ n = ap length read ∙ length-map-range_with_len f 0 n in
    ap (λ ps. get_or ps k clear) made
    ∙ get_or-zip2 (blend_of most layer.mode) source old k clear clear clear (omega (arith, all, long)) l
    ∙ ap (λ s. blend_of most layer.mode s (get_or old k clear)) (ap (λ ps. get_or ps k clear) read ∙ get_or-map-range_with_len f 0 n k k clear (omega (arith, long)) (omega arith))

pub colour_laid : (most : ℕ) (layer : PlacedLayer) (x y : ℤ) (pixel : Argb) (old new : List Argb) → ((k : ℕ) → k < length old → source_at most layer (x +ℤ pos k) y ≡ pixel)
    → new ≡ map (blend_of most layer.mode pixel) old
    → (k : ℕ) → k < length old → get_or new k clear ≡ step most layer (x +ℤ pos k) y (get_or old k clear)
colour_laid most layer x y pixel old new same made k l =
    ap (λ ps. get_or ps k clear) made ∙ get_or-map (blend_of most layer.mode pixel) old k clear clear l
    ∙ ap (λ s. blend_of most layer.mode s (get_or old k clear)) (sym (same k l))

-- the part of a row, and the pixels of it
part_long : (old : List Argb) (start end : ℕ) → start ≤ end → end ≤ length old → length (take (end - start) (drop start old)) ≡ end - start
part_long old start end order within = length-take-le (end - start) (drop start old) (omega (arith, length-drop start old))

part_at : (old : List Argb) (start end k : ℕ) → start ≤ k → k < end → get_or (take (end - start) (drop start old)) (k - start) clear ≡ get_or old k clear
part_at old start end k low high =
    let place : start + (k - start) ≡ k = omega arith in
    get_or-take (end - start) (drop start old) (k - start) clear (omega arith) ∙ get_or-drop start old (k - start) clear ∙ ap (λ j. get_or old j clear) place

pub middle_inside : (most : ℕ) (layer : PlacedLayer) (x y rx : ℤ) (old new : List Argb) (start end : ℕ) → start ≤ end → end ≤ length old → rx ≡ x +ℤ pos start
    → length new ≡ length (take (end - start) (drop start old))
    → ((j : ℕ) → j < length (take (end - start) (drop start old)) → get_or new j clear ≡ step most layer (rx +ℤ pos j) y (get_or (take (end - start) (drop start old)) j clear))
    → (k : ℕ) → k < length old → start ≤ k → k < end → get_or (put_mid start (end - start) old new) k clear ≡ step most layer (x +ℤ pos k) y (get_or old k clear)
middle_inside most layer x y rx old new start end order within column same laid k l low high =
    let long = part_long old start end order within in
    let at : rx +ℤ pos (k - start) ≡ x +ℤ pos k = omega (arith, ints, column, low) in
    written_inside old new start (end - start) k (omega arith) (same ∙ long) low (omega arith)
    ∙ laid (k - start) (omega (arith, long))
    ∙ ap₂ (λ c p. step most layer c y p) at (part_at old start end k low high)

pub middle_outside : (old new : List Argb) (start end : ℕ) → start ≤ end → end ≤ length old → length new ≡ length (take (end - start) (drop start old))
    → (k : ℕ) → k < length old → ¬ ((start ≤ k) × (k < end)) → get_or (put_mid start (end - start) old new) k clear ≡ get_or old k clear
middle_outside old new start end order within same k l out = by (cases_lt k start) (cases_lt k end)
  where
    long : length new ≡ end - start
    long = same ∙ part_long old start end order within

    by : (k < start) ⊎ (start ≤ k) → (k < end) ⊎ (end ≤ k) → get_or (put_mid start (end - start) old new) k clear ≡ get_or old k clear
    by (inl low) r = written_below old new start (end - start) k (omega arith) low
    by (inr q) (inr high) = written_above old new start (end - start) k (omega arith) long (omega arith)
    by (inr q) (inl r) = absurd (out (q, r))

-- where a layer brings nothing and its mode leaves what is below
pub nothing_brought : (most : ℕ) (layer : PlacedLayer) (x y : ℤ) (below : Argb) → IsDepth most → is_stencil layer.mode ≡ false
    → (layer.layer.opacity ≡ 0) ⊎ (pixel_at layer.layer x y ≡ clear) → step most layer x y below ≡ below
nothing_brought most layer x y below depth leaves none =
    ap (λ s. blend_of most layer.mode s below) (source_clear none) ∙ transparent_leaves most layer.mode below depth leaves
  where
    source_clear : (layer.layer.opacity ≡ 0) ⊎ (pixel_at layer.layer x y ≡ clear) → source_at most layer x y ≡ clear
    source_clear (inl e) = ap (scale_of (matted most layer.matte (matte_at layer.over x y) (pixel_at layer.layer x y))) e ∙ scale_none (matted most layer.matte (matte_at layer.over x y) (pixel_at layer.layer x y))
    source_clear (inr e) =
        ap (λ p. scale_of (matted most layer.matte (matte_at layer.over x y) p) layer.layer.opacity) e
        ∙ ap (λ p. scale_of p layer.layer.opacity) (matted_clear most layer.matte (matte_at layer.over x y) depth) ∙ scale_clear layer.layer.opacity

-- a layer over the points that it may bring something to is that layer over all
pub laid : (most : ℕ) (layer : PlacedLayer) (x y : ℤ) (old new : List Argb) (start end : ℕ) → IsDepth most → is_stencil layer.mode ≡ false
    → ((k : ℕ) → k < length old → ¬ ((start ≤ k) × (k < end)) → (layer.layer.opacity ≡ 0) ⊎ (pixel_at layer.layer (x +ℤ pos k) y ≡ clear))
    → ((k : ℕ) → k < length old → start ≤ k → k < end → get_or new k clear ≡ step most layer (x +ℤ pos k) y (get_or old k clear))
    → ((k : ℕ) → k < length old → ¬ ((start ≤ k) × (k < end)) → get_or new k clear ≡ get_or old k clear)
    → (k : ℕ) → k < length old → get_or new k clear ≡ step most layer (x +ℤ pos k) y (get_or old k clear)
laid most layer x y old new start end depth leaves beyond inside outside k l = by (cases_lt k start) (cases_lt k end)
  where
    nothing : ¬ ((start ≤ k) × (k < end)) → get_or new k clear ≡ step most layer (x +ℤ pos k) y (get_or old k clear)
    nothing out = outside k l out ∙ sym (nothing_brought most layer (x +ℤ pos k) y (get_or old k clear) depth leaves (beyond k l out))

    by : (k < start) ⊎ (start ≤ k) → (k < end) ⊎ (end ≤ k) → get_or new k clear ≡ step most layer (x +ℤ pos k) y (get_or old k clear)
    by (inl low) r = nothing (λ i. omega (arith, low, i.0))
    by (inr q) (inr high) = nothing (λ i. omega (arith, high, i.1))
    by (inr q) (inl r) = inside k l q r
