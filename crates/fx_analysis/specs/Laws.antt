-- The laws of the effects that draw from an analysis. Their kind is given apart from the use, for sets that number them anew.
use Rattle.std.specs.Prelude.{◌≢◌, ◌==◌, ◌||◌, nat_le, sum, sum_by, count_by, codes, map}
use Rattle.std.specs.List.{All, range_with_len}
use Rattle.std.specs.Int.{int_min}
use Rattle.std.specs.Str.{bytes_eq}
use Rattle.std.proofs.lemmas.Slice.Eq.{bytes_eq-Decides}
use Rattle.std.proofs.Common.{◌≡◌, ℕ, zero, suc, ◌+◌, ◌-◌, ◌*◌, ◌/◌, ◌≤◌, ℤ, pos, ◌+ℤ◌, ◌-ℤ◌, ◌*ℤ◌, ◌≤ℤ◌, Bool, true, false, List, [], ◌∷◌, length, if◌then◌else◌, refl, subst, sym, arith}
use Rattle.std.proofs.lemmas.Int.{ints, clamps}
use Rattle.std.proofs.lemmas.List.Elements.{All-nil, All-cons}
use Rattle.std.proofs.lemmas.List.FromFn.{length-map-range_with_len}
use Rattle.std.proofs.Math.Nat.{mul-le-mul_left, div-le_of_le-mul}
use Rattle.geom_rect.specs.declared.rect.Rect.{Rect}
use Rattle.rational_time.specs.Times.{floor_of, held_of}
use Rattle.rational_time.specs.declared.time.Tick.{Tick}
use Rattle.argb_pixel.specs.Pixel.{Argb, IsPremultiplied, clear}
use Rattle.argb_pixel.proofs.Channels.{same_argb}
use Rattle.comp_stack.specs.Stack.{Plane}
use Rattle.project_model.specs.Effects.{Use, AreSchemas}
use Rattle.effect_api.specs.declared.moment.Moment.{Moment}
use Rattle.effect_api.specs.declared.moment.Ask.{Ask}
use Rattle.effect_api.specs.Fits.{IsHeld, FitsSchema}
use Rattle.effect_api.specs.Planes.{extents_of}
use Rattle.effect_api.specs.Wants.{AreClassNames, IsAsk, AreAsks}
use Rattle.effect_api.specs.Effects.{IsInput, IsDrawing, IsLocal}
use Rattle.effect_api.specs.Own.{own_wants, own_bounds}
use Rattle.effect_api.specs.Laws.{part_within, schemas_from_test, each_point_drawing, each_point_local}
use Rattle.fx_color.specs.Formulas.{with_colours}
use Rattle.fx_color.specs.Color.{amount_of, number_of}
use Rattle.fx_color.specs.Laws.{number_within}
use Rattle.fx_analysis.specs.declared.kind.AnalysisKind.{AnalysisKind}
use Rattle.fx_analysis.specs.declared.kind.AnalysisKind.TheVariants.{AutoLevels, Equalize, Deflicker}
use Rattle.fx_analysis.specs.Sums.{histogram_of, light_of, pixels_in, is_at_level, analysis_sums}
use Rattle.fx_analysis.specs.Formulas.{count_to, spread_part, spread, low_of, high_of, equalized_part, equalized, relit_part, relit, sums_at, number_in}
use Rattle.fx_analysis.specs.Counts.{count_to_within}
use Rattle.fx_analysis.specs.Analysis.{levels_schema, deflicker_schema, analysis_schema, analysis_schemas, analysis_class_names, asked, tick_after, light_asks, analysis_asks, adjusted, analysis_draws}

pub analysis_schemas_are : AreSchemas analysis_schemas
analysis_schemas_are = schemas_from_test analysis_schemas refl

-- ---- names

-- texts that differ by test
differ : (text other : List ℕ) → bytes_eq text other ≡ false → text ≢ other
differ text other e same = (let equal = (bytes_eq-Decides text other).1 same in cc)

pub analysis_class_names_are : AreClassNames analysis_class_names
analysis_class_names_are = record {
  few = omega arith;
  distinct = (All-cons (λ (t : List ℕ). t ≢ codes "histogram") (codes "light") [] (differ (codes "light") (codes "histogram") refl) (All-nil _), (All-nil _, tt));
  none_is_plane = All-cons (λ (t : List ℕ). t ≢ codes "plane") (codes "histogram") (codes "light" ∷ []) (differ (codes "histogram") (codes "plane") refl)
      (All-cons (λ (t : List ℕ). t ≢ codes "plane") (codes "light") [] (differ (codes "light") (codes "plane") refl) (All-nil _));
}

-- ---- parameters in their ranges

pub clip_within : (fx : Use) (at : Moment) → FitsSchema levels_schema fx → amount_of fx 0 at ≤ 4999
clip_within fx at fits = part_within (number_of fx 0 at) 4999 (number_within levels_schema fx at 0 fits).1

pub clip_range : (fx : Use) (at : Moment) → FitsSchema levels_schema fx → (pos 0 ≤ℤ number_of fx 0 at) × (number_of fx 0 at ≤ℤ pos 4999)
clip_range fx at fits = let h = number_within levels_schema fx at 0 fits in (omega (arith, ints, h.0), omega (arith, ints, h.1))

pub radius_within : (fx : Use) (at : Moment) → FitsSchema deflicker_schema fx → amount_of fx 0 at ≤ 4
radius_within fx at fits = part_within (number_of fx 0 at) 4 (number_within deflicker_schema fx at 0 fits).1

pub radius_range : (fx : Use) (at : Moment) → FitsSchema deflicker_schema fx → (pos 0 ≤ℤ number_of fx 0 at) × (number_of fx 0 at ≤ℤ pos 4999)
radius_range fx at fits = let h = number_within deflicker_schema fx at 0 fits in (omega (arith, ints, h.0), omega (arith, ints, h.1))

-- ---- asks

-- what is held is held
held_again : (base : ℕ) (z : ℤ) → held_of base (held_of base z) ≡ held_of base z
held_again base z = omega (arith, ints, clamps)

asked_is : (base class : ℕ) (tick : Tick) → 1 ≤ class → class ≤ 2 → IsHeld base tick.0 → IsAsk 2 0 base (asked class tick)
asked_is base class tick low high held = record {
  class_low = low;
  class_high = high;
  number = omega arith;
  over = record { input_is = omega arith; held = held };
}

pub all_over_range : (P : Ask → Type 0) (f : ℕ → Ask) → ((i : ℕ) → P (f i)) → (n start : ℕ) → All P (map f (range_with_len start n))
all_over_range P f each zero start = All-nil P
all_over_range P f each (suc n) start = All-cons P (f start) (map f (range_with_len (start + 1) n)) (each start) (all_over_range P f each n (start + 1))

pub light_asks_are : (radius : ℕ) (at : Moment) → radius ≤ 4 → AreAsks 2 0 at.base.ticks (light_asks radius at)
light_asks_are radius at near = record {
  few = subst (λ (n : ℕ). n ≤ 16) (sym (length-map-range_with_len (λ i. asked 2 (tick_after at (pos i -ℤ pos radius))) 0 (2 * radius + 1))) (omega (arith, near));
  each = all_over_range (IsAsk 2 0 at.base.ticks) (λ i. asked 2 (tick_after at (pos i -ℤ pos radius)))
      (λ i. asked_is at.base.ticks 2 (tick_after at (pos i -ℤ pos radius)) (omega arith) (omega arith)
      (held_again at.base.ticks (at.tick.0 +ℤ ((pos i -ℤ pos radius) *ℤ at.frame)))) (2 * radius + 1) 0;
}

histogram_asks_are : (at : Moment) → IsHeld at.base.ticks at.tick.0 → AreAsks 2 0 at.base.ticks (asked 1 at.tick ∷ [])
histogram_asks_are at held = record {
  few = omega arith;
  each = All-cons (IsAsk 2 0 at.base.ticks) (asked 1 at.tick) [] (asked_is at.base.ticks 1 at.tick (omega arith) (omega arith) held) (All-nil _);
}

pub analysis_asks_are : (kind : AnalysisKind) (fx : Use) (at : Moment) → FitsSchema (analysis_schema kind) fx → IsHeld at.base.ticks at.tick.0
    → AreAsks (length analysis_class_names) (analysis_schema kind).layers at.base.ticks (analysis_asks kind fx at)
analysis_asks_are AutoLevels fx at fits held = histogram_asks_are at held
analysis_asks_are Equalize fx at fits held = histogram_asks_are at held
analysis_asks_are Deflicker fx at fits held = light_asks_are (amount_of fx 0 at) at (radius_within fx at fits)

-- ---- sums

pub histogram_length : (pixels : List Argb) → length (histogram_of pixels) ≡ 256
unfolding histogram_of
histogram_length pixels = length-map-range_with_len (λ level. count_by (is_at_level level) pixels) 0 256

few_sums : (b c : Bool) (counts light : List ℕ) → length counts ≡ 256 → length light ≡ 2
    → length (if b then counts else (if c then light else [])) ≤ 65536
few_sums true c counts light h k = omega (arith, h)
few_sums false true counts light h k = omega (arith, k)
few_sums false false counts light h k = omega arith

pub analysis_sums_few : (class ask : ℕ) (plane : Plane) → length (analysis_sums class ask plane) ≤ 65536
analysis_sums_few class ask plane =
    few_sums (class == 1) (class == 2) (histogram_of (pixels_in plane)) (light_of (pixels_in plane)) (histogram_length (pixels_in plane)) (omega arith)

-- ---- pixels, by whatever sums

coloured : (most : ℕ) (p : Argb) (r g b : ℕ) → IsPremultiplied most p → r ≤ p.a → g ≤ p.a → b ≤ p.a → IsPremultiplied most (with_colours p r g b)
coloured most p r g b fits red green blue = record { alpha = fits.alpha; red = red; green = green; blue = blue }

either_premultiplied : (most : ℕ) (b : Bool) (p q : Argb) → IsPremultiplied most p → IsPremultiplied most q → IsPremultiplied most (if b then p else q)
either_premultiplied most true p q h k = h
either_premultiplied most false p q h k = k

pub spread_within : (low high a c : ℕ) → spread_part low high a c ≤ a
spread_within low high a c =
    part_within (int_min (pos a) (floor_of (pos (255 * c) -ℤ pos (low * a)) (pos (high - low)))) a (omega (arith, ints, clamps))

pub share_within : (a n total : ℕ) → n ≤ total → a * n / total ≤ a
share_within a n zero few = omega arith
share_within a n (suc total) few = div-le_of_le-mul (suc total) (omega (arith, mul-le-mul_left a few))

pub equalized_within : (counts : List ℕ) (a c : ℕ) → equalized_part counts a c ≤ a
equalized_within counts a c = share_within a (count_to counts (c * 255 / a)) (sum counts) (count_to_within counts (c * 255 / a))

pub relit_within : (luma alpha middle_luma middle_alpha a c : ℕ) → relit_part luma alpha middle_luma middle_alpha a c ≤ a
relit_within luma alpha middle_luma middle_alpha a c = omega arith

spread_keeps : (most total low high : ℕ) (p : Argb) → IsPremultiplied most p → IsPremultiplied most (spread total low high p)
spread_keeps most total low high p is =
    either_premultiplied most (total == 0 || nat_le high low) p _ is
    (coloured most p _ _ _ is (spread_within low high p.a p.r) (spread_within low high p.a p.g) (spread_within low high p.a p.b))

equalized_keeps : (most : ℕ) (counts : List ℕ) (p : Argb) → IsPremultiplied most p → IsPremultiplied most (equalized counts p)
equalized_keeps most counts p is =
    either_premultiplied most (sum counts == 0 || p.a == 0) p _ is
    (coloured most p _ _ _ is (equalized_within counts p.a p.r) (equalized_within counts p.a p.g) (equalized_within counts p.a p.b))

relit_keeps : (most luma alpha middle_luma middle_alpha : ℕ) (p : Argb) → IsPremultiplied most p → IsPremultiplied most (relit luma alpha middle_luma middle_alpha p)
relit_keeps most luma alpha middle_luma middle_alpha p is =
    either_premultiplied most (middle_luma == 0 || alpha == 0) p _ is
    (coloured most p _ _ _ is (relit_within luma alpha middle_luma middle_alpha p.a p.r) (relit_within luma alpha middle_luma middle_alpha p.a p.g)
    (relit_within luma alpha middle_luma middle_alpha p.a p.b))

-- a pixel stays premultiplied
pub adjusted_keeps : (most : ℕ) (kind : AnalysisKind) (fx : Use) (at : Moment) (sums : List (List ℕ)) (p : Argb)
    → IsPremultiplied most p → IsPremultiplied most (adjusted kind fx at sums p)
adjusted_keeps most AutoLevels fx at sums p is =
    spread_keeps most (sum (sums_at sums 0)) (low_of (amount_of fx 0 at) (sums_at sums 0)) (high_of (amount_of fx 0 at) (sums_at sums 0)) p is
adjusted_keeps most Equalize fx at sums p is = equalized_keeps most (sums_at sums 0) p is
adjusted_keeps most Deflicker fx at sums p is =
    let middle = sums_at sums (amount_of fx 0 at) in
    relit_keeps most (sum_by (λ light. number_in light 0) sums) (sum_by (λ light. number_in light 1) sums) (number_in middle 0) (number_in middle 1) p is

-- what is transparent stays so: a premultiplied pixel without alpha
pub clear_from_alpha : (p : Argb) → IsPremultiplied 0 p → p ≡ clear
clear_from_alpha p is =
    same_argb p.a 0 p.r 0 p.g 0 p.b 0 (omega (arith, is.alpha)) (omega (arith, is.alpha, is.red)) (omega (arith, is.alpha, is.green)) (omega (arith, is.alpha, is.blue))

pub adjusted_clear : (kind : AnalysisKind) (fx : Use) (at : Moment) (sums : List (List ℕ)) → adjusted kind fx at sums clear ≡ clear
adjusted_clear kind fx at sums =
    clear_from_alpha (adjusted kind fx at sums clear)
    (adjusted_keeps 0 kind fx at sums clear record { alpha = omega arith; red = omega arith; green = omega arith; blue = omega arith })

-- what is drawn is a picture within the input's extent, whatever the sums are
pub analysis_drawing : (most : ℕ) (sums_of : ℕ → ℕ → Plane → List ℕ) (kind : AnalysisKind) (fx : Use) (at : Moment) (planes : List Plane) (sums : List (List ℕ))
    → IsInput most sums_of (own_wants at) (analysis_asks kind fx at) planes sums
    → IsDrawing most (own_bounds (extents_of planes)) (analysis_draws most kind fx at planes sums)
analysis_drawing most sums_of kind fx at planes sums given =
    each_point_drawing most sums_of (analysis_asks kind fx at) at planes sums (adjusted kind fx at sums) (adjusted_keeps most kind fx at sums) given

-- and depends on no other point
pub analysis_local : (most : ℕ) (sums_of : ℕ → ℕ → Plane → List ℕ) (kind : AnalysisKind) (fx : Use) (at : Moment) (extents : List Rect)
    → IsLocal most sums_of (own_wants at) (analysis_asks kind fx at) extents (λ rect i. rect) (analysis_draws most kind fx at)
analysis_local most sums_of kind fx at extents rect planes others sums =
    each_point_local most sums_of (analysis_asks kind fx at) at extents (adjusted kind fx at sums) rect planes others sums
