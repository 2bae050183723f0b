-- What holds of blur and mosaic: pictures again, and each drawn from what is near alone.
use Rattle.std.proofs.Common.{◌≡◌, ℕ, ◌+◌, ◌*◌, ◌<◌, ℤ, pos, ◌+ℤ◌, ◌-ℤ◌, Bool, true, false, if◌then◌else◌, refl, ap, sym, subst, ◌∙◌, arith}
use Rattle.std.proofs.Math.Nat.{mul-pos}
use Rattle.std.proofs.lemmas.Int.{ints}
use Rattle.geom_rect.specs.declared.rect.Rect.{Rect}
use Rattle.geom_rect.specs.Rect.{Has, has, count_between, width_of, area_of, grow_of}
use Rattle.geom_rect.proofs.Points.{Has-grow_of, Has-from_true}
use Rattle.argb_pixel.specs.Pixel.{Argb, IsPremultiplied, clear}
use Rattle.argb_pixel.proofs.Channels.{clear_premultiplied}
use Rattle.argb_world.proofs.Places.{positive_part_pos, below}
use Rattle.argb_world.proofs.Rows.{column_above, column_below}
use Rattle.comp_stack.specs.Stack.{Plane}
use Rattle.effect_api.specs.Planes.{IsPlane, AgreeOn}
use Rattle.effect_api.specs.Effects.{IsDrawing}
use Rattle.fx_blur.specs.Sums.{column_sum, sum_over, mean_of}
use Rattle.fx_blur.specs.Blur.{across, window_of, blur_at, blur_extent}
use Rattle.fx_blur.specs.Mosaic.{block_of, mosaic_at, blocks_of}
use Rattle.fx_blur.specs.SumLaws.{total_alike, total_clear, total_premultiplied, premultiplied_more, mean_premultiplied, mean_clear}
use Rattle.fx_blur.specs.Blocks.{block_has, block_within_blocks}

-- ---- sums over a rectangle

in_rect : (rect : Rect) (i j : ℕ) → i < width_of rect → j < count_between rect.top rect.bottom → Has rect (rect.left +ℤ pos i) (rect.top +ℤ pos j)
in_rect rect i j li lj = (column_above rect.left i, column_below rect.left rect.right i li, column_above rect.top j, column_below rect.top rect.bottom j lj)

pub sum_alike : (f g : ℤ → ℤ → Argb) (rect : Rect) → ((x y : ℤ) → Has rect x y → f x y ≡ g x y) → sum_over f rect ≡ sum_over g rect
sum_alike f g rect same =
    total_alike (λ i. column_sum f (rect.left +ℤ pos i) rect.top (count_between rect.top rect.bottom)) (λ i. column_sum g (rect.left +ℤ pos i) rect.top (count_between rect.top rect.bottom)) (width_of rect) λ i li.
    total_alike (λ j. f (rect.left +ℤ pos i) (rect.top +ℤ pos j)) (λ j. g (rect.left +ℤ pos i) (rect.top +ℤ pos j)) (count_between rect.top rect.bottom) λ j lj.
    same _ _ (in_rect rect i j li lj)

pub sum_clear : (f : ℤ → ℤ → Argb) (rect : Rect) → ((x y : ℤ) → Has rect x y → f x y ≡ clear) → sum_over f rect ≡ clear
sum_clear f rect none =
    total_clear (λ i. column_sum f (rect.left +ℤ pos i) rect.top (count_between rect.top rect.bottom)) (width_of rect) λ i li.
    total_clear (λ j. f (rect.left +ℤ pos i) (rect.top +ℤ pos j)) (count_between rect.top rect.bottom) λ j lj.
    none _ _ (in_rect rect i j li lj)

pub sum_premultiplied : (most : ℕ) (f : ℤ → ℤ → Argb) (rect : Rect) (count : ℕ) → ((x y : ℤ) → IsPremultiplied most (f x y))
    → area_of rect ≡ count → IsPremultiplied (most * count) (sum_over f rect)
sum_premultiplied most f rect count each is =
    let same : most * (width_of rect * count_between rect.top rect.bottom) ≡ most * count = ap (λ n. most * n) is in
    premultiplied_more (most * count_between rect.top rect.bottom * width_of rect) (most * count) (sum_over f rect) (omega (arith, same))
    (total_premultiplied (most * count_between rect.top rect.bottom) (λ i. column_sum f (rect.left +ℤ pos i) rect.top (count_between rect.top rect.bottom)) (width_of rect) λ i li.
    total_premultiplied most (λ j. f (rect.left +ℤ pos i) (rect.top +ℤ pos j)) (count_between rect.top rect.bottom) λ j lj. each _ _)

-- ---- blur

-- how many numbers a window has along an axis
pub window_along : (radius : ℕ) (x : ℤ) → count_between (x -ℤ pos radius) (x +ℤ pos (radius + 1)) ≡ across radius
window_along radius x = positive_part_pos ((x +ℤ pos (radius + 1)) -ℤ (x -ℤ pos radius)) (across radius) (omega (arith, ints))

-- a window has as many points as blur divides by
pub window_count : (radius : ℕ) (x y : ℤ) → area_of (window_of radius x y) ≡ across radius * across radius
window_count radius x y =
    ap (λ n. n * count_between (y -ℤ pos radius) (y +ℤ pos (radius + 1))) (window_along radius x) ∙ ap (λ n. across radius * n) (window_along radius y)

some_across : (radius : ℕ) → 0 < across radius * across radius
some_across radius = omega arith

pub blur_premultiplied : (most radius : ℕ) (plane : Plane) → IsPlane most plane → (x y : ℤ) → IsPremultiplied most (blur_at radius plane x y)
blur_premultiplied most radius plane is x y =
    mean_premultiplied most (across radius * across radius) _ (some_across radius)
    (sum_premultiplied most plane.at (window_of radius x y) (across radius * across radius) is.pixels (window_count radius x y))

pub blur_clear : (most radius : ℕ) (plane : Plane) → IsPlane most plane → (x y : ℤ) → ¬ Has (blur_extent radius plane.extent) x y → blur_at radius plane x y ≡ clear
blur_clear most radius plane is x y far =
    ap (mean_of (across radius * across radius)) (sum_clear plane.at (window_of radius x y) λ u v h. is.outside u v λ k.
    far ((Has-grow_of plane.extent (pos radius) x y (omega (arith, ints))).1
    (u, v, k, (omega (arith, ints, h.0), omega (arith, ints, h.1)), (omega (arith, ints, h.2), omega (arith, ints, h.3)))))
    ∙ mean_clear (across radius * across radius) (some_across radius)

-- a blurred picture is a picture
pub blur_drawing : (most radius : ℕ) (plane : Plane) → IsPlane most plane → IsDrawing most (blur_extent radius plane.extent) (blur_at radius plane)
blur_drawing most radius plane is = record { pixels = blur_premultiplied most radius plane is; outside = blur_clear most radius plane is }

-- planes that agree on the rectangle grown by the radius are alike blurred on the rectangle
pub blur_local : (radius : ℕ) (plane other : Plane) (rect : Rect) → AgreeOn (grow_of rect (pos radius)) plane other
    → (x y : ℤ) → Has rect x y → blur_at radius plane x y ≡ blur_at radius other x y
blur_local radius plane other rect agree x y inside =
    ap (mean_of (across radius * across radius)) (sum_alike plane.at other.at (window_of radius x y) λ u v h.
    agree u v ((Has-grow_of rect (pos radius) u v (omega (arith, ints))).1
    (x, y, inside, (omega (arith, ints, h.1), omega (arith, ints, h.0)), (omega (arith, ints, h.3), omega (arith, ints, h.2)))))

-- ---- mosaic

-- a rectangle with a point has some
pub some_area : (rect : Rect) (x y : ℤ) → Has rect x y → 0 < area_of rect
some_area rect x y h =
    let wide : 0 < width_of rect = (let l = below rect.left rect.right x h.0 h.1 in omega arith) in
    let high : 0 < count_between rect.top rect.bottom = (let l = below rect.top rect.bottom y h.2 h.3 in omega arith) in
    mul-pos wide high

pub mosaic_inside : (size : ℕ) (plane : Plane) (x y : ℤ) → has plane.extent x y ≡ true
    → mosaic_at size plane x y ≡ mean_of (area_of (block_of size plane.extent x y)) (sum_over plane.at (block_of size plane.extent x y))
mosaic_inside size plane x y e =
    ap (λ (b : Bool). if b then mean_of (area_of (block_of size plane.extent x y)) (sum_over plane.at (block_of size plane.extent x y)) else clear) e

pub mosaic_outside : (size : ℕ) (plane : Plane) (x y : ℤ) → has plane.extent x y ≡ false → mosaic_at size plane x y ≡ clear
mosaic_outside size plane x y e =
    ap (λ (b : Bool). if b then mean_of (area_of (block_of size plane.extent x y)) (sum_over plane.at (block_of size plane.extent x y)) else clear) e

-- a mosaic is a picture
pub mosaic_drawing : (most size : ℕ) (plane : Plane) → 0 < size → IsPlane most plane → IsDrawing most plane.extent (mosaic_at size plane)
mosaic_drawing most size plane some is = record {
  pixels = λ x y. pixel x y (has plane.extent x y) refl;
  outside = λ x y far. none x y far (has plane.extent x y) refl;
}
  where
    pixel : (x y : ℤ) (b : Bool) → has plane.extent x y ≡ b → IsPremultiplied most (mosaic_at size plane x y)
    pixel x y true e =
        let there = block_has size plane.extent x y some (Has-from_true plane.extent x y e) in
        subst (IsPremultiplied most) (sym (mosaic_inside size plane x y e))
        (mean_premultiplied most (area_of (block_of size plane.extent x y)) _ (some_area (block_of size plane.extent x y) x y there)
        (sum_premultiplied most plane.at (block_of size plane.extent x y) (area_of (block_of size plane.extent x y)) is.pixels refl))
    pixel x y false e = subst (IsPremultiplied most) (sym (mosaic_outside size plane x y e)) (clear_premultiplied most)

    none : (x y : ℤ) → ¬ Has plane.extent x y → (b : Bool) → has plane.extent x y ≡ b → mosaic_at size plane x y ≡ clear
    none x y far true e = absurd (far (Has-from_true plane.extent x y e))
    none x y far false e = mosaic_outside size plane x y e

-- planes of one extent that agree on the blocks that meet the rectangle have the same mosaic on the rectangle
pub mosaic_local : (size : ℕ) (plane other : Plane) (rect : Rect) → 0 < size → plane.extent ≡ other.extent
    → AgreeOn (blocks_of size plane.extent rect) plane other → (x y : ℤ) → Has rect x y → mosaic_at size plane x y ≡ mosaic_at size other x y
mosaic_local size plane other rect some same agree x y inside = by (has plane.extent x y) refl
  where
    moved : (b : Bool) → has plane.extent x y ≡ b → has other.extent x y ≡ b
    moved b e = ap (λ (r : Rect). has r x y) (sym same) ∙ e

    by : (b : Bool) → has plane.extent x y ≡ b → mosaic_at size plane x y ≡ mosaic_at size other x y
    by true e =
        let here = Has-from_true plane.extent x y e in
        mosaic_inside size plane x y e
        ∙ ap (mean_of (area_of (block_of size plane.extent x y))) (sum_alike plane.at other.at (block_of size plane.extent x y) λ u v h.
        agree u v (block_within_blocks size plane.extent rect x y some inside here u v h))
        ∙ ap (λ (r : Rect). mean_of (area_of (block_of size r x y)) (sum_over other.at (block_of size r x y))) same
        ∙ sym (mosaic_inside size other x y (moved true e))
    by false e = mosaic_outside size plane x y e ∙ sym (mosaic_outside size other x y (moved false e))
