-- What a layer brings to a row of points.
use Rattle.std.proofs.Common.{◌≡◌, ℕ, ℤ, pos, ◌+ℤ◌, ◌-ℤ◌, List, [], ◌∷◌, length, map, replicate, refl, ap, ap₂, sym, ◌∙◌, arith}
use Rattle.std.specs.Prelude.{Option, Some, None}
use Rattle.std.specs.List.{range_with_len}
use lib.Lanes.{zip2}
use Rattle.std.proofs.lemmas.Simd.{zip2-map, map-map, splat_is_map}
use Rattle.std.proofs.lemmas.List.FromFn.{length-map-range_with_len, length-range_with_len}
use Rattle.std.proofs.lemmas.Int.{ints}
use Rattle.geom_rect.specs.Rect.{Has}
use Rattle.argb_pixel.specs.Depth.{IsDepth}
use Rattle.argb_pixel.specs.Pixel.{Argb, clear, scale_of}
use Rattle.argb_pixel.proofs.Rounded.{rounded_whole}
use Rattle.argb_pixel.proofs.Channels.{same_argb}
use Rattle.argb_world.specs.Picture.{Picture, at, span_of}
use Rattle.argb_world.proofs.Rows.{at_beyond}
use Rattle.track_matte.specs.Mattes.{matted}
use Rattle.track_matte.specs.declared.matte.Matte.{Matte}
use Rattle.track_matte.specs.declared.matte.Matte.TheVariants as matte
use Rattle.track_matte.proofs.Unchanged.{none_leaves}
use Rattle.comp_stack.specs.Stack.{PlacedPlane, PlacedLayer, pixel_at, matte_at, source_at}
use Rattle.comp_stack.specs.Spans.{pixel_span, matte_span, source_span}

-- a column of the stack and of a picture at a position
column_is : (x px cx : ℤ) (k : ℕ) → cx ≡ x -ℤ px → cx +ℤ pos k ≡ (x +ℤ pos k) -ℤ px
column_is x px cx k e = omega (arith, ints, e)

pub pixel_is : (w : Picture) (x y px py cx cy : ℤ) (k : ℕ) → cx ≡ x -ℤ px → cy ≡ y -ℤ py → at w (cx +ℤ pos k) cy ≡ at w ((x +ℤ pos k) -ℤ px) (y -ℤ py)
pixel_is w x y px py cx cy k ex ey = ap₂ (at w) (column_is x px cx k ex) ey

pub span_is_pixels : (w : Picture) (x y px py cx cy : ℤ) (n : ℕ) → cx ≡ x -ℤ px → cy ≡ y -ℤ py
    → span_of w cx cy n ≡ map (λ k. at w ((x +ℤ pos k) -ℤ px) (y -ℤ py)) (range_with_len 0 n)
span_is_pixels w x y px py cx cy n ex ey = ap (λ f. map f (range_with_len 0 n)) (λ i k. pixel_is w x y px py cx cy k ex ey i)

-- a point that is not in the part
pub beyond_is_clear : (w : Picture) (x y px py cx cy : ℤ) (k : ℕ) → cx ≡ x -ℤ px → cy ≡ y -ℤ py → ¬ Has w.part (cx +ℤ pos k) cy → at w ((x +ℤ pos k) -ℤ px) (y -ℤ py) ≡ clear
beyond_is_clear w x y px py cx cy k ex ey outside = sym (pixel_is w x y px py cx cy k ex ey) ∙ at_beyond w.extent w.part w.pixels (cx +ℤ pos k) cy outside

-- full opacity leaves a pixel
pub scale_whole : (p : Argb) → scale_of p 10000 ≡ p
scale_whole p =
    same_argb _ _ _ _ _ _ _ _ (rounded_whole p.a 10000 (omega arith)) (rounded_whole p.r 10000 (omega arith)) (rounded_whole p.g 10000 (omega arith))
    (rounded_whole p.b 10000 (omega arith))

-- what a layer with no matte brings where its picture has one colour
pub one_source_is : (most : ℕ) (kind : Matte) (q p colour : Argb) (opacity : ℕ) → IsDepth most → kind ≡ matte.None → p ≡ colour
    → scale_of (matted most kind q p) opacity ≡ scale_of colour opacity
one_source_is most kind q p colour opacity depth none is =
    ap (λ t. scale_of t opacity) (ap (λ (k : Matte). matted most k q p) none ∙ none_leaves most q p depth ∙ is)

-- what a layer brings with no matte and at full opacity
pub whole_span_is : (most : ℕ) (layer : PlacedLayer) (x y : ℤ) (n : ℕ) → IsDepth most → layer.matte ≡ matte.None → layer.layer.opacity ≡ 10000
    → pixel_span layer.layer x y n ≡ source_span most layer x y n
whole_span_is most layer x y n depth none whole = ap (λ f. map f (range_with_len 0 n)) (λ i k. each k i)
  where
    each : (k : ℕ) → pixel_at layer.layer (x +ℤ pos k) y ≡ source_at most layer (x +ℤ pos k) y
    each k =
        let p = pixel_at layer.layer (x +ℤ pos k) y in
        sym (one_source_is most layer.matte (matte_at layer.over (x +ℤ pos k) y) p p layer.layer.opacity depth none refl ∙ ap (scale_of p) whole ∙ scale_whole p)

pub length_sources : (most : ℕ) (layer : PlacedLayer) (x y : ℤ) (n : ℕ) → length (source_span most layer x y n) ≡ n
length_sources most layer x y n = length-map-range_with_len (λ k. source_at most layer (x +ℤ pos k) y) 0 n

pub scaled_whole : (opacity : ℕ) (row : List Argb) → opacity ≡ 10000 → row ≡ map (λ p. scale_of p opacity) row
scaled_whole opacity [] whole = refl
scaled_whole opacity (p ∷ row) whole =
    let head : p ≡ scale_of p opacity = sym (ap (scale_of p) whole ∙ scale_whole p) in
    ap (λ t. t ∷ row) head ∙ ap (λ t. scale_of p opacity ∷ t) (scaled_whole opacity row whole)

pub length_pixels : (placed : PlacedPlane) (x y : ℤ) (n : ℕ) → length (pixel_span placed x y n) ≡ n
length_pixels placed x y n = length-map-range_with_len (λ k. pixel_at placed (x +ℤ pos k) y) 0 n

pub sources_are : (most : ℕ) (layer : PlacedLayer) (x y : ℤ) (n : ℕ)
    → map (λ p. scale_of p layer.layer.opacity) (zip2 (matted most layer.matte) (matte_span layer.over x y n) (pixel_span layer.layer x y n)) ≡ source_span most layer x y n
sources_are most layer x y n =
    ap (map (λ p. scale_of p layer.layer.opacity)) (zip2-map (matted most layer.matte) (λ k. matte_at layer.over (x +ℤ pos k) y) (λ k. pixel_at layer.layer (x +ℤ pos k) y) (range_with_len 0 n))
    ∙ map-map (λ p. scale_of p layer.layer.opacity) (λ k. matted most layer.matte (matte_at layer.over (x +ℤ pos k) y) (pixel_at layer.layer (x +ℤ pos k) y)) (range_with_len 0 n)

-- the pixels of a matte that is seen
pub mattes_are : (placed : PlacedPlane) (x y : ℤ) (n : ℕ) → map (λ p. scale_of p placed.opacity) (pixel_span placed x y n) ≡ matte_span (Some placed) x y n
mattes_are placed x y n = map-map (λ p. scale_of p placed.opacity) (λ k. pixel_at placed (x +ℤ pos k) y) (range_with_len 0 n)

-- and of one that is not
pub no_matte : (x y : ℤ) (n : ℕ) → replicate n clear ≡ matte_span None x y n
no_matte x y n = splat_is_map (range_with_len 0 n) n clear (length-range_with_len 0 n)

pub length_mattes : (over : Option PlacedPlane) (x y : ℤ) (n : ℕ) → length (matte_span over x y n) ≡ n
length_mattes over x y n = length-map-range_with_len (λ k. matte_at over (x +ℤ pos k) y) 0 n
