-- The laws of the colour effects. Their kind is given apart from the use, for sets that number them anew.
use Rattle.std.specs.Prelude.{◌-◌, ◌==◌, nat_le, ◌+ℤ◌, ◌*ℤ◌}
use Rattle.std.specs.Int.{int_min}
use Rattle.std.proofs.Common.{◌≡◌, ℕ, zero, suc, ◌+◌, ◌*◌, ◌/◌, ◌<◌, ◌≤◌, ℤ, pos, Bool, true, false, List, [], if◌then◌else◌, refl, ap, ◌∙◌, arith}
use Rattle.std.proofs.lemmas.Int.{ints, clamps}
use Rattle.std.proofs.Math.Nat.{mul-le-mul_left}
use Rattle.geom_rect.specs.declared.rect.Rect.{Rect}
use Rattle.rational_time.specs.Times.{floor_of}
use Rattle.argb_pixel.specs.Pixel.{Argb, IsPremultiplied, luma_of, clear}
use Rattle.argb_pixel.proofs.Channels.{luma_within, same_argb}
use Rattle.comp_stack.specs.Stack.{Plane}
use Rattle.param_stream.specs.Curve.{IsBetween}
use Rattle.project_model.specs.declared.effect.EffectSchema.{EffectSchema}
use Rattle.project_model.specs.Effects.{Use, AreSchemas, schema_of}
use Rattle.effect_api.specs.declared.moment.Moment.{Moment}
use Rattle.effect_api.specs.Fits.{FitsSchema, param_of}
use Rattle.effect_api.specs.Planes.{extents_of}
use Rattle.effect_api.specs.Effects.{IsInput, IsDrawing, IsLocal}
use Rattle.effect_api.specs.Own.{own_wants, own_bounds}
use Rattle.effect_api.specs.Laws.{part_within, schemas_from_test, value_in_range, each_point_drawing, each_point_local}
use Rattle.fx_color.specs.Formulas.{with_colours, inverted_part, threshold_part, channel_of, held_below, scaled_part, tinted_part, byte_at, mapped_part}
use Rattle.fx_color.specs.Parts.{mixed_within, mean_within}
use Rattle.fx_color.specs.Color.{color_schemas, amount_of, number_of, recoloured, color_draws}

pub color_schemas_are : AreSchemas color_schemas
color_schemas_are = schemas_from_test color_schemas refl

-- what holds of each kind
by_kind : (P : ℕ → Type 0) → P 0 → P 1 → P 2 → P 3 → P 4 → P 5 → (kind : ℕ) → kind < 6 → P kind
by_kind P a b c d e f zero l = a
by_kind P a b c d e f (suc zero) l = b
by_kind P a b c d e f (suc (suc zero)) l = c
by_kind P a b c d e f (suc (suc (suc zero))) l = d
by_kind P a b c d e f (suc (suc (suc (suc zero)))) l = e
by_kind P a b c d e f (suc (suc (suc (suc (suc zero))))) l = f
by_kind P a b c d e f (suc (suc (suc (suc (suc (suc n)))))) l = absurd (omega (arith, l))

-- a parameter is in the range of its schema
pub number_within : (schema : EffectSchema) (fx : Use) (at : Moment) (index : ℕ) → FitsSchema schema fx
    → IsBetween (param_of schema.params index).least (param_of schema.params index).most (number_of fx index at)
number_within schema fx at index fits = value_in_range schema.params fx.params at.base.ticks index at.tick.0 fits.in_range

-- either of two numbers
either_within : (b : Bool) (x y n : ℕ) → x ≤ n → y ≤ n → (if b then x else y) ≤ n
either_within true x y n h k = h
either_within false x y n h k = k

either_same : (b : Bool) (x : ℕ) → (if b then x else x) ≡ x
either_same true x = refl
either_same false x = refl

coloured : (most : ℕ) (p : Argb) (r g b : ℕ) → IsPremultiplied most p → r ≤ p.a → g ≤ p.a → b ≤ p.a → IsPremultiplied most (with_colours p r g b)
coloured most p r g b fits red green blue = record { alpha = fits.alpha; red = red; green = green; blue = blue }

luma_below : (most : ℕ) (p : Argb) → IsPremultiplied most p → luma_of p ≤ p.a
luma_below most p fits = luma_within p.a p record { alpha = omega arith; red = fits.red; green = fits.green; blue = fits.blue }

-- each colour stays below alpha
inverted_within : (channel number a c : ℕ) → c ≤ a → inverted_part channel a number c ≤ a
inverted_within channel number a c h =
    either_within (channel == 0) (a - c) _ a (omega arith) (either_within (channel == number) (a - c) c a (omega arith) h)

threshold_within : (level a l : ℕ) → threshold_part level a l ≤ a
threshold_within level a l = either_within (nat_le (level * a) (l * 10000)) a 0 a (omega arith) (omega arith)

channel_within : (most : ℕ) (p : Argb) (number : ℕ) → IsPremultiplied most p → channel_of p number ≤ p.a
channel_within most p number fits =
    either_within (number == 0) p.r _ p.a fits.red (either_within (number == 1) p.g _ p.a fits.green
    (either_within (number == 2) p.b _ p.a fits.blue (either_within (number == 3) p.a 0 p.a (omega arith) (omega arith))))

held_within : (a : ℕ) (z : ℤ) → held_below a z ≤ a
held_within a z = part_within (int_min (pos a) z) a (omega (arith, ints, clamps))

tinted_within : (black white amount a l c : ℕ) → black ≤ 10000 → white ≤ 10000 → amount ≤ 10000 → l ≤ a → c ≤ a → tinted_part black white amount a l c ≤ a
tinted_within black white amount a l c low high part luma colour =
    mixed_within a c ((black * (a - l) + white * l + 5000) / 10000) amount colour (mean_within a l black white luma low high) part

mapped_within : (bytes : List ℕ) (place a : ℕ) → mapped_part bytes place a ≤ a
mapped_within bytes place a =
    let byte : byte_at bytes place ≤ 255 = omega arith in
    let product : a * byte_at bytes place ≤ a * 255 = mul-le-mul_left a byte in
    omega (arith, product)

-- a pixel stays premultiplied
pub recoloured_keeps : (most kind : ℕ) (fx : Use) (at : Moment) → kind < 6 → FitsSchema (schema_of color_schemas kind) fx
    → (p : Argb) → IsPremultiplied most p → IsPremultiplied most (recoloured kind fx at p)
recoloured_keeps most kind fx at known fits p is =
    by_kind (λ k. FitsSchema (schema_of color_schemas k) fx → IsPremultiplied most (recoloured k fx at p)) invert threshold shift scale tint palette kind known fits
  where
    invert : FitsSchema (schema_of color_schemas 0) fx → IsPremultiplied most (recoloured 0 fx at p)
    invert _ = coloured most p _ _ _ is
        (inverted_within (amount_of fx 0 at) 1 p.a p.r is.red) (inverted_within (amount_of fx 0 at) 2 p.a p.g is.green) (inverted_within (amount_of fx 0 at) 3 p.a p.b is.blue)

    threshold : FitsSchema (schema_of color_schemas 1) fx → IsPremultiplied most (recoloured 1 fx at p)
    threshold _ = let part = threshold_within (amount_of fx 0 at) p.a (luma_of p) in coloured most p _ _ _ is part part part

    shift : FitsSchema (schema_of color_schemas 2) fx → IsPremultiplied most (recoloured 2 fx at p)
    shift _ = coloured most p _ _ _ is
        (channel_within most p (amount_of fx 0 at) is) (channel_within most p (amount_of fx 1 at) is) (channel_within most p (amount_of fx 2 at) is)

    scale : FitsSchema (schema_of color_schemas 3) fx → IsPremultiplied most (recoloured 3 fx at p)
    scale _ = coloured most p _ _ _ is (held_within p.a _) (held_within p.a _) (held_within p.a _)

    tint : FitsSchema (schema_of color_schemas 4) fx → IsPremultiplied most (recoloured 4 fx at p)
    tint fits =
        let share = λ (i : ℕ). number_within (schema_of color_schemas 4) fx at i fits in
        let low = luma_below most p is in
        let amount : amount_of fx 6 at ≤ 10000 = part_within _ 10000 (share 6).1 in
        coloured most p _ _ _ is
        (tinted_within (amount_of fx 0 at) (amount_of fx 3 at) (amount_of fx 6 at) p.a (luma_of p) p.r (part_within _ 10000 (share 0).1) (part_within _ 10000 (share 3).1) amount low is.red)
        (tinted_within (amount_of fx 1 at) (amount_of fx 4 at) (amount_of fx 6 at) p.a (luma_of p) p.g (part_within _ 10000 (share 1).1) (part_within _ 10000 (share 4).1) amount low is.green)
        (tinted_within (amount_of fx 2 at) (amount_of fx 5 at) (amount_of fx 6 at) p.a (luma_of p) p.b (part_within _ 10000 (share 2).1) (part_within _ 10000 (share 5).1) amount low is.blue)

    palette : FitsSchema (schema_of color_schemas 5) fx → IsPremultiplied most (recoloured 5 fx at p)
    palette _ = coloured most p _ _ _ is (mapped_within fx.sequence _ p.a) (mapped_within fx.sequence _ p.a) (mapped_within fx.sequence _ p.a)

-- where there is no alpha there is nothing
within_none : (n : ℕ) → n ≤ 0 → n ≡ 0
within_none n h = omega (arith, h)

scaled_none : (scale offset : ℤ) → scaled_part scale offset 0 0 ≡ 0
scaled_none scale offset = within_none _ (held_within 0 (floor_of (((pos 0 *ℤ scale) +ℤ (pos 0 *ℤ offset)) +ℤ pos 5000) (pos 10000)))

tinted_none : (black white amount : ℕ) → tinted_part black white amount 0 0 0 ≡ 0
tinted_none black white amount =
    let mean : (black * (0 - 0) + white * 0 + 5000) / 10000 ≡ 0 = omega arith in
    ap (λ (m : ℕ). (0 * (10000 - amount) + m * amount + 5000) / 10000) mean ∙ omega arith

pub recoloured_clear : (kind : ℕ) (fx : Use) (at : Moment) → kind < 6 → recoloured kind fx at clear ≡ clear
recoloured_clear kind fx at known = by_kind (λ k. recoloured k fx at clear ≡ clear) invert threshold shift scale tint palette kind known
  where
    cleared : (r g b : ℕ) → r ≡ 0 → g ≡ 0 → b ≡ 0 → with_colours clear r g b ≡ clear
    cleared r g b red green blue = same_argb 0 0 r 0 g 0 b 0 refl red green blue

    none : (most : ℕ) → IsPremultiplied most clear
    none most = record { alpha = omega arith; red = omega arith; green = omega arith; blue = omega arith }

    invert : recoloured 0 fx at clear ≡ clear
    invert = cleared _ _ _
        (within_none _ (inverted_within (amount_of fx 0 at) 1 0 0 (omega arith))) (within_none _ (inverted_within (amount_of fx 0 at) 2 0 0 (omega arith))) (within_none _ (inverted_within (amount_of fx 0 at) 3 0 0 (omega arith)))

    threshold : recoloured 1 fx at clear ≡ clear
    threshold = let part = within_none _ (threshold_within (amount_of fx 0 at) 0 (luma_of clear)) in cleared _ _ _ part part part

    shift : recoloured 2 fx at clear ≡ clear
    shift = cleared _ _ _
        (within_none _ (channel_within 0 clear (amount_of fx 0 at) (none 0))) (within_none _ (channel_within 0 clear (amount_of fx 1 at) (none 0))) (within_none _ (channel_within 0 clear (amount_of fx 2 at) (none 0)))

    scale : recoloured 3 fx at clear ≡ clear
    scale = let part = scaled_none (number_of fx 0 at) (number_of fx 1 at) in cleared _ _ _ part part part

    tint : recoloured 4 fx at clear ≡ clear
    tint = cleared _ _ _
        (tinted_none (amount_of fx 0 at) (amount_of fx 3 at) (amount_of fx 6 at)) (tinted_none (amount_of fx 1 at) (amount_of fx 4 at) (amount_of fx 6 at)) (tinted_none (amount_of fx 2 at) (amount_of fx 5 at) (amount_of fx 6 at))

    palette : recoloured 5 fx at clear ≡ clear
    palette = cleared _ _ _ (within_none _ (mapped_within fx.sequence _ 0)) (within_none _ (mapped_within fx.sequence _ 0)) (within_none _ (mapped_within fx.sequence _ 0))

-- what a colour effect draws is a picture within its bounds
pub color_drawing : (most : ℕ) (sums_of : ℕ → ℕ → Plane → List ℕ) (kind : ℕ) (fx : Use) (at : Moment) (planes : List Plane) (sums : List (List ℕ)) → kind < 6 → FitsSchema (schema_of color_schemas kind) fx
    → IsInput most sums_of (own_wants at) [] planes sums → IsDrawing most (own_bounds (extents_of planes)) (color_draws kind fx at planes)
color_drawing most sums_of kind fx at planes sums known fits given =
    each_point_drawing most sums_of [] at planes sums (recoloured kind fx at) (recoloured_keeps most kind fx at known fits) given

-- and depends on no other point
pub color_local : (most : ℕ) (sums_of : ℕ → ℕ → Plane → List ℕ) (kind : ℕ) (fx : Use) (at : Moment) (extents : List Rect)
    → IsLocal most sums_of (own_wants at) [] extents (λ rect i. rect) (λ planes sums. color_draws kind fx at planes)
color_local most sums_of kind fx at extents = each_point_local most sums_of [] at extents (recoloured kind fx at)
