-- The laws of the effects of time. Their kind is given apart from the use, for sets that number them anew.
use Rattle.std.proofs.Common.{◌≡◌, ℕ, zero, suc, ◌-◌, ◌*◌, ◌<◌, ◌≤◌, ℤ, pos, negsuc, neg_ℤ, ◌+ℤ◌, ◌*ℤ◌, ◌≤ℤ◌, max, true, List, [], ◌∷◌, length, refl, ap, ap₂, sym, subst, ◌∙◌, arith}
use Rattle.std.specs.Int.{abs_diff}
use Rattle.std.proofs.lemmas.Int.{ints, clamps}
use Rattle.std.proofs.lemmas.List.FromFn.{get_or-map-range_with_len, length-map-range_with_len}
use Rattle.geom_rect.specs.declared.rect.Rect.{Rect}
use Rattle.geom_rect.specs.Rect.{Has, is_empty, origin, positive_part, grow_of, IsWithin}
use Rattle.geom_rect.proofs.Points.{Has-grow_of}
use Rattle.rational_time.specs.Times.{held_of}
use Rattle.param_stream.specs.Curve.{IsBetween}
use Rattle.argb_pixel.specs.Depth.{IsDepth}
use Rattle.argb_pixel.specs.Pixel.{Argb, IsPremultiplied, clear, scale_of}
use Rattle.argb_pixel.proofs.Channels.{clear_premultiplied, part_premultiplied}
use Rattle.transfer_mode.specs.declared.mode.Mode.TheVariants.{Normal}
use Rattle.transfer_mode.specs.Transfer.{blend_of}
use Rattle.transfer_mode.proofs.Rules.{blend_premultiplied, transparent_leaves}
use Rattle.comp_stack.specs.Stack.{Plane}
use Rattle.comp_stack.proofs.Nothing.{scale_clear}
use Rattle.project_model.specs.Effects.{Use, AreSchemas}
use Rattle.effect_api.specs.declared.moment.Moment.{Moment}
use Rattle.effect_api.specs.Fits.{IsHeld, FitsSchema, value_of}
use Rattle.effect_api.specs.Planes.{IsPlane, HasSides, plane_at, extent_at, extents_of, cover_all}
use Rattle.effect_api.specs.Wants.{IsWant, AreWants, IsBounds}
use Rattle.effect_api.specs.Effects.{IsInput, IsDrawing, IsLocal}
use Rattle.effect_api.specs.Laws.{schemas_from_test, part_within, value_in_range, extent_of_plane}
use Rattle.fx_color.specs.Color.{amount_of, number_of}
use Rattle.fx_color.specs.Laws.{number_within}
use Rattle.fx_blur.specs.Sums.{total, mean_of}
use Rattle.fx_blur.specs.SumLaws.{total_alike, total_clear, total_premultiplied, mean_premultiplied, mean_clear}
use Rattle.fx_spatial.specs.Near.{cover_first, cover_second, cover_none, near_itself}
use Rattle.fx_time.specs.declared.kind.TimeKind.{TimeKind}
use Rattle.fx_time.specs.declared.kind.TimeKind.TheVariants.{Echo, PosterizeTime, FrameDifference, TimeMean}
use Rattle.fx_time.specs.Formulas.{echoes, echo_of, difference_of}
use Rattle.fx_time.specs.Time.{time_schema, time_schemas, echo_schema, posterize_schema, difference_schema, mean_schema, want_count, seen_tick, want_of, time_wants, time_bounds, time_need, strength_of, time_draws}

pub time_schemas_are : AreSchemas time_schemas
time_schemas_are = schemas_from_test time_schemas refl

-- ---- parameters in their ranges

pub count_within : (fx : Use) (at : Moment) → FitsSchema echo_schema fx → IsBetween (pos 1) (pos 8) (number_of fx 0 at)
count_within fx at fits = let h = number_within echo_schema fx at 0 fits in (omega (arith, ints, h.0), omega (arith, ints, h.1))

pub delay_within : (fx : Use) (at : Moment) → FitsSchema echo_schema fx → IsBetween (pos 1) (pos 100) (number_of fx 1 at)
delay_within fx at fits = let h = number_within echo_schema fx at 1 fits in (omega (arith, ints, h.0), omega (arith, ints, h.1))

pub step_within : (fx : Use) (at : Moment) → FitsSchema posterize_schema fx → IsBetween (pos 1) (pos 1000) (number_of fx 0 at)
step_within fx at fits = let h = number_within posterize_schema fx at 0 fits in (omega (arith, ints, h.0), omega (arith, ints, h.1))

some_part : (z : ℤ) → pos 1 ≤ℤ z → 0 < positive_part z
some_part (pos n) h = omega (arith, ints, h)
some_part (negsuc n) h = absurd (omega (arith, ints, h))

pub step_some : (fx : Use) (at : Moment) → FitsSchema posterize_schema fx → 0 < amount_of fx 0 at
step_some fx at fits = some_part (number_of fx 0 at) (step_within fx at fits).0

pub gap_within : (fx : Use) (at : Moment) → FitsSchema difference_schema fx → IsBetween (pos 1) (pos 100) (number_of fx 0 at)
gap_within fx at fits = let h = number_within difference_schema fx at 0 fits in (omega (arith, ints, h.0), omega (arith, ints, h.1))

pub radius_within : (fx : Use) (at : Moment) → FitsSchema mean_schema fx → IsBetween (pos 0) (pos 4) (number_of fx 0 at)
radius_within fx at fits = let h = number_within mean_schema fx at 0 fits in (omega (arith, ints, h.0), omega (arith, ints, h.1))

-- also at another tick
pub strength_between : (fx : Use) (base : ℕ) (tick : ℤ) → FitsSchema echo_schema fx → IsBetween (pos 0) (pos 10000) (value_of base fx 2 tick)
strength_between fx base tick fits =
    let h = value_in_range echo_schema.params fx.params base 2 tick fits.in_range in (omega (arith, ints, h.0), omega (arith, ints, h.1))

pub strength_within : (fx : Use) (at : Moment) (k : ℕ) → FitsSchema echo_schema fx → strength_of fx at k ≤ 10000
strength_within fx at k fits = part_within _ 10000 (strength_between fx at.base.ticks (want_of Echo fx at k).tick.0 fits).1

-- ---- wants

pub wants_few : (kind : TimeKind) (fx : Use) (at : Moment) → FitsSchema (time_schema kind) fx → want_count kind fx at < 10
wants_few Echo fx at fits = omega (arith, part_within (number_of fx 0 at) 8 (count_within fx at fits).1)
wants_few PosterizeTime fx at fits = omega arith
wants_few FrameDifference fx at fits = omega arith
wants_few TimeMean fx at fits = omega (arith, part_within (number_of fx 0 at) 4 (radius_within fx at fits).1)

pub some_wants : (kind : TimeKind) (fx : Use) (at : Moment) → 1 ≤ want_count kind fx at
some_wants Echo fx at = omega arith
some_wants PosterizeTime fx at = omega arith
some_wants FrameDifference fx at = omega arith
some_wants TimeMean fx at = omega arith

pub wants_length : (kind : TimeKind) (fx : Use) (at : Moment) → length (time_wants kind fx at) ≡ want_count kind fx at
wants_length kind fx at = length-map-range_with_len (want_of kind fx at) 0 (want_count kind fx at)

-- a held tick is held
pub held_twice : (base : ℕ) (t : ℤ) → IsHeld base (held_of base t)
held_twice base t = omega (arith, ints, clamps)

no_schema_layers : (kind : TimeKind) → (time_schema kind).layers ≡ 0
no_schema_layers Echo = refl
no_schema_layers PosterizeTime = refl
no_schema_layers FrameDifference = refl
no_schema_layers TimeMean = refl

pub time_wants_are : (kind : TimeKind) (fx : Use) (at : Moment) → FitsSchema (time_schema kind) fx → AreWants (time_schema kind).layers at.base.ticks (time_wants kind fx at)
time_wants_are kind fx at fits = record {
  few = omega (arith, wants_length kind fx at, wants_few kind fx at fits);
  each = λ i d l. subst (IsWant (time_schema kind).layers at.base.ticks)
      (sym (get_or-map-range_with_len (want_of kind fx at) 0 (want_count kind fx at) i i d (omega (arith, l, wants_length kind fx at)) (omega arith)))
      record { input_is = omega arith; held = held_twice at.base.ticks (seen_tick kind fx at i) };
}

-- the first want of Echo and of FrameDifference is the input at the moment
pub first_now : (at : Moment) (d : ℕ) → IsHeld at.base.ticks at.tick.0 → held_of at.base.ticks (at.tick.0 +ℤ (neg_ℤ (pos (0 * d)) *ℤ at.frame)) ≡ at.tick.0
first_now at d held =
    let none : 0 * d ≡ 0 = omega arith in
    let still : at.tick.0 +ℤ (neg_ℤ (pos 0) *ℤ at.frame) ≡ at.tick.0 = omega (arith, ints) in
    ap (λ (n : ℕ). held_of at.base.ticks (at.tick.0 +ℤ (neg_ℤ (pos n) *ℤ at.frame))) none ∙ ap (held_of at.base.ticks) still ∙ held

-- ---- bounds

-- each extent is in the cover of all
pub each_within : (extents : List Rect) (i : ℕ) → i < length extents → IsWithin (extent_at extents i) (cover_all extents)
each_within [] i l = absurd (omega (arith, l))
each_within (extent ∷ rest) zero l = cover_first extent (cover_all rest)
each_within (extent ∷ rest) (suc i) l = λ x y h. cover_second extent (cover_all rest) x y (each_within rest i (omega (arith, l)) x y h)

grown_within : (a b : Rect) → IsWithin a b → IsWithin a (grow_of b (pos 1024))
grown_within a b inside x y h = (Has-grow_of b (pos 1024) x y (omega (arith, ints))).1 (near_itself b 1024 x y (inside x y h))

origin_near : HasSides origin
origin_near = record {
  left_near = (omega (arith, ints), omega (arith, ints));
  top_near = (omega (arith, ints), omega (arith, ints));
  right_near = (omega (arith, ints), omega (arith, ints));
  bottom_near = (omega (arith, ints), omega (arith, ints));
}

-- an empty cover is at the origin
empty_cover : (extents : List Rect) → is_empty (cover_all extents) ≡ true → cover_all extents ≡ origin
empty_cover [] e = refl
empty_cover (extent ∷ rest) e = cover_none extent (cover_all rest) e

covered_bounds : (extents : List Rect) → IsBounds extents (cover_all extents)
covered_bounds extents = record {
  near = grown_within (cover_all extents) (cover_all extents) (λ x y h. h);
  empty = λ all none. subst HasSides (sym (empty_cover extents none)) origin_near;
}

pub time_bounds_are : (kind : TimeKind) (fx : Use) (at : Moment) (extents : List Rect)
    → length extents ≡ length (time_wants kind fx at) → IsBounds extents (time_bounds kind fx at extents)
time_bounds_are Echo fx at extents count = covered_bounds extents
time_bounds_are PosterizeTime fx at extents count = record {
  near = grown_within (extent_at extents 0) (cover_all extents) (each_within extents 0 (omega (arith, count)));
  empty = λ all none. all 0 origin (omega (arith, count));
}
time_bounds_are FrameDifference fx at extents count = covered_bounds extents
time_bounds_are TimeMean fx at extents count = covered_bounds extents

-- ---- echoes

pub echoes_premultiplied : (most : ℕ) (echo : ℕ → Argb) (count n : ℕ) → IsDepth most → ((k : ℕ) → k ≤ count → IsPremultiplied most (echo k)) → IsPremultiplied most (echoes most echo count n)
echoes_premultiplied most echo count zero depth each = clear_premultiplied most
echoes_premultiplied most echo count (suc n) depth each =
    blend_premultiplied most Normal (echo (count - n)) (echoes most echo count n) depth (each (count - n) (omega arith)) (echoes_premultiplied most echo count n depth each)

pub echoes_clear : (most : ℕ) (echo : ℕ → Argb) (count n : ℕ) → IsDepth most → ((k : ℕ) → k ≤ count → echo k ≡ clear) → echoes most echo count n ≡ clear
echoes_clear most echo count zero depth each = refl
echoes_clear most echo count (suc n) depth each =
    ap₂ (blend_of most Normal) (each (count - n) (omega arith)) (echoes_clear most echo count n depth each) ∙ transparent_leaves most Normal clear depth refl

-- echoes that are alike from the first to the last
pub echoes_alike : (most : ℕ) (echo other : ℕ → Argb) (count n : ℕ) → n ≤ count → ((k : ℕ) → 1 ≤ k → k ≤ count → echo k ≡ other k) → echoes most echo count n ≡ echoes most other count n
echoes_alike most echo other count zero some alike = refl
echoes_alike most echo other count (suc n) some alike =
    ap₂ (blend_of most Normal) (alike (count - n) (omega (arith, some)) (omega arith)) (echoes_alike most echo other count n (omega (arith, some)) alike)

pub scaled_premultiplied : (most strength : ℕ) (p : Argb) → strength ≤ 10000 → IsPremultiplied most p → IsPremultiplied most (scale_of p strength)
scaled_premultiplied most strength p part is = part_premultiplied most 10000 strength p (omega arith) part is

-- ---- differences

apart_le : (a b x y : ℕ) → x ≤ a → y ≤ b → abs_diff x y ≤ max a b
apart_le a b x y h k = omega (arith, h, k)

pub difference_premultiplied : (most : ℕ) (p q : Argb) → IsPremultiplied most p → IsPremultiplied most q → IsPremultiplied most (difference_of p q)
difference_premultiplied most p q h k = record {
  alpha = omega (arith, h.alpha, k.alpha);
  red = apart_le p.a q.a p.r q.r h.red k.red;
  green = apart_le p.a q.a p.g q.g h.green k.green;
  blue = apart_le p.a q.a p.b q.b h.blue k.blue;
}

-- ---- pictures within the bounds

-- the planes that are drawn from
abbrev ArePlanes : ℕ → List Plane → ℕ → Type 0
ArePlanes most planes count = (i : ℕ) → i < count → IsPlane most (plane_at planes i)

pixels_are : (most : ℕ) (kind : TimeKind) (fx : Use) (at : Moment) (planes : List Plane) → FitsSchema (time_schema kind) fx → IsDepth most
    → ArePlanes most planes (want_count kind fx at) → (x y : ℤ) → IsPremultiplied most (time_draws most kind fx at planes x y)
pixels_are most Echo fx at planes fits depth are x y =
    blend_premultiplied most Normal ((plane_at planes 0).at x y) (echoes most (echo_of (strength_of fx at) planes x y) (amount_of fx 0 at) (amount_of fx 0 at)) depth
    ((are 0 (omega arith)).pixels x y)
    (echoes_premultiplied most (echo_of (strength_of fx at) planes x y) (amount_of fx 0 at) (amount_of fx 0 at) depth
    (λ k l. scaled_premultiplied most (strength_of fx at k) ((plane_at planes k).at x y) (strength_within fx at k fits) ((are k (omega (arith, l))).pixels x y)))
pixels_are most PosterizeTime fx at planes fits depth are x y = (are 0 (omega arith)).pixels x y
pixels_are most FrameDifference fx at planes fits depth are x y =
    difference_premultiplied most ((plane_at planes 0).at x y) ((plane_at planes 1).at x y) ((are 0 (omega arith)).pixels x y) ((are 1 (omega arith)).pixels x y)
pixels_are most TimeMean fx at planes fits depth are x y =
    let count : ℕ = want_count TimeMean fx at in
    mean_premultiplied most count (total (λ i. (plane_at planes i).at x y) count) (omega arith)
    (total_premultiplied most (λ i. (plane_at planes i).at x y) count (λ k l. (are k l).pixels x y))

-- planes that show nothing at a point
abbrev AreClear : List Plane → ℕ → ℤ → ℤ → Type 0
AreClear planes count x y = (i : ℕ) → i < count → (plane_at planes i).at x y ≡ clear

drawn_clear : (most : ℕ) (kind : TimeKind) (fx : Use) (at : Moment) (planes : List Plane) → IsDepth most
    → (x y : ℤ) → AreClear planes (want_count kind fx at) x y → time_draws most kind fx at planes x y ≡ clear
drawn_clear most Echo fx at planes depth x y none =
    ap₂ (blend_of most Normal) (none 0 (omega arith))
    (echoes_clear most (echo_of (strength_of fx at) planes x y) (amount_of fx 0 at) (amount_of fx 0 at) depth
    (λ k l. ap (λ (p : Argb). scale_of p (strength_of fx at k)) (none k (omega (arith, l))) ∙ scale_clear (strength_of fx at k)))
    ∙ transparent_leaves most Normal clear depth refl
drawn_clear most PosterizeTime fx at planes depth x y none = none 0 (omega arith)
drawn_clear most FrameDifference fx at planes depth x y none = ap₂ difference_of (none 0 (omega arith)) (none 1 (omega arith))
drawn_clear most TimeMean fx at planes depth x y none =
    let count : ℕ = want_count TimeMean fx at in
    ap (mean_of count) (total_clear (λ i. (plane_at planes i).at x y) count none) ∙ mean_clear count (omega arith)

-- what is outside the bounds is outside each extent
beyond_each : (kind : TimeKind) (fx : Use) (at : Moment) (extents : List Rect) → length extents ≡ want_count kind fx at
    → (x y : ℤ) → ¬ Has (time_bounds kind fx at extents) x y → (i : ℕ) → i < want_count kind fx at → ¬ Has (extent_at extents i) x y
beyond_each Echo fx at extents long x y far i l h = far (each_within extents i (omega (arith, l, long)) x y h)
beyond_each PosterizeTime fx at extents long x y far zero l h = far h
beyond_each PosterizeTime fx at extents long x y far (suc i) l h = absurd (omega (arith, l))
beyond_each FrameDifference fx at extents long x y far i l h = far (each_within extents i (omega (arith, l, long)) x y h)
beyond_each TimeMean fx at extents long x y far i l h = far (each_within extents i (omega (arith, l, long)) x y h)

length_extents : (planes : List Plane) → length (extents_of planes) ≡ length planes
length_extents [] = refl
length_extents (plane ∷ planes) = ap suc (length_extents planes)

-- what an effect of time draws is a picture within its bounds
pub time_drawing : (most : ℕ) (sums_of : ℕ → ℕ → Plane → List ℕ) (kind : TimeKind) (fx : Use) (at : Moment) (planes : List Plane) (sums : List (List ℕ)) → FitsSchema (time_schema kind) fx
    → IsInput most sums_of (time_wants kind fx at) [] planes sums → IsDrawing most (time_bounds kind fx at (extents_of planes)) (time_draws most kind fx at planes)
time_drawing most sums_of kind fx at planes sums fits given = record {
  pixels = pixels_are most kind fx at planes fits given.depth are;
  outside = λ x y far. drawn_clear most kind fx at planes given.depth x y λ i l.
      (are i l).outside x y (λ h. beyond_each kind fx at (extents_of planes) (length_extents planes ∙ long) x y far i l (subst (λ (e : Rect). Has e x y) (sym (extent_of_plane planes i)) h));
}
  where
    long : length planes ≡ want_count kind fx at
    long = given.one_each ∙ wants_length kind fx at

    are : ArePlanes most planes (want_count kind fx at)
    are i l = given.planes_are i _ (omega (arith, l, long))

-- ---- each point from the same points

-- planes that show the same at a point
abbrev AreAlike : List Plane → List Plane → ℕ → ℤ → ℤ → Type 0
AreAlike planes others count x y = (i : ℕ) → i < count → (plane_at planes i).at x y ≡ (plane_at others i).at x y

drawn_alike : (most : ℕ) (kind : TimeKind) (fx : Use) (at : Moment) (planes others : List Plane) (x y : ℤ) → AreAlike planes others (want_count kind fx at) x y
    → time_draws most kind fx at planes x y ≡ time_draws most kind fx at others x y
drawn_alike most Echo fx at planes others x y alike =
    ap₂ (blend_of most Normal) (alike 0 (omega arith))
    (echoes_alike most (echo_of (strength_of fx at) planes x y) (echo_of (strength_of fx at) others x y) (amount_of fx 0 at) (amount_of fx 0 at) (omega arith)
    (λ k _ l. ap (λ (p : Argb). scale_of p (strength_of fx at k)) (alike k (omega (arith, l)))))
drawn_alike most PosterizeTime fx at planes others x y alike = alike 0 (omega arith)
drawn_alike most FrameDifference fx at planes others x y alike = ap₂ difference_of (alike 0 (omega arith)) (alike 1 (omega arith))
drawn_alike most TimeMean fx at planes others x y alike =
    let count : ℕ = want_count TimeMean fx at in
    ap (mean_of count) (total_alike (λ i. (plane_at planes i).at x y) (λ i. (plane_at others i).at x y) count alike)

-- and it is drawn from what is needed alone
pub time_local : (most : ℕ) (sums_of : ℕ → ℕ → Plane → List ℕ) (kind : TimeKind) (fx : Use) (at : Moment) (extents : List Rect)
    → IsLocal most sums_of (time_wants kind fx at) [] extents (λ rect i. time_need kind fx at extents i rect) (λ planes sums. time_draws most kind fx at planes)
time_local most sums_of kind fx at extents rect planes others sums given other_given extents_are other_extents agree x y inside =
    drawn_alike most kind fx at planes others x y λ i l. agree i (omega (arith, l, given.one_each, wants_length kind fx at)) x y inside
