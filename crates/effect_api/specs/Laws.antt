-- Lemmas that the laws of an effect set are proved by.
use Rattle.std.specs.Prelude.{◌≢◌, ◌≤◌, ◌||◌, not, int_le, nat_le, ◌≤ℤ◌, neg_ℤ, ◌^◌}
use Rattle.std.specs.List.{All, list_any, list_all}
use Rattle.std.specs.Str.{bytes_eq}
use Rattle.std.proofs.lemmas.Bool.{and_parts}
use Rattle.std.proofs.lemmas.Slice.Eq.{bytes_eq-Decides}
use Rattle.std.proofs.Common.{◌≡◌, ℕ, zero, suc, ℤ, pos, negsuc, ◌+ℤ◌, ◌-ℤ◌, Bool, true, false, List, [], ◌∷◌, length, slice_index_or, if◌then◌else◌, refl, ap, sym, subst, ◌∙◌, arith}
use Rattle.std.proofs.lemmas.Int.{ints}
use Rattle.std.proofs.lemmas.List.Elements.{All-nil, All-cons}
use Rattle.std.proofs.Math.ListN.{get_or-map}
use Rattle.geom_rect.specs.declared.rect.Rect.{Rect}
use Rattle.geom_rect.specs.Rect.{Has, has, positive_part, is_empty, origin, cover_of, grow_of, IsWithin}
use Rattle.geom_rect.proofs.Points.{no_point_from_true, has-true, Has-from_true}
use Rattle.argb_pixel.specs.Pixel.{Argb, IsPremultiplied, clear}
use Rattle.argb_pixel.proofs.Channels.{clear_premultiplied}
use Rattle.argb_world.specs.Picture.{Picture, at, place_of}
use Rattle.comp_stack.specs.Stack.{Plane}
use Rattle.comp_stack.specs.Layers.{plane_of}
use Rattle.param_stream.specs.declared.key.Keyframe.{Keyframe}
use Rattle.param_stream.specs.Curve.{IsBetween, value_at}
use Rattle.param_stream.proofs.Values.{value_within}
use Rattle.project_model.specs.declared.effect.EffectSchema.{EffectSchema}
use Rattle.project_model.specs.declared.effect.ParamSchema.{ParamSchema}
use Rattle.project_model.specs.Effects.{Use, FitsKind, AreInRange, AreSchemas, DistinctTexts, IsParam, schema_of}
use Rattle.effect_api.specs.Tests.{are_different, is_param, are_schemas}
use Rattle.effect_api.specs.declared.moment.Moment.{Moment}
use Rattle.effect_api.specs.declared.moment.Ask.{Ask}
use Rattle.effect_api.specs.Fits.{IsHeld, FitsSchema, param_of}
use Rattle.effect_api.specs.Planes.{IsPlane, plane_at, extent_at, extents_of, cover_all}
use Rattle.effect_api.specs.Wants.{AreClassNames, IsWant, AreWants, AreAsks, IsBounds}
use Rattle.effect_api.specs.Effects.{IsInput, IsDrawing, IsLocal}
use Rattle.effect_api.specs.Own.{own_wants, own_bounds, no_classes, no_sums, each_point}

differ : true ≡ false → ⊥
differ e = cc

not_true : (b : Bool) → not b ≡ true → b ≡ false
not_true true e = cc
not_true false e = refl

int_le_true : (a b : ℤ) → int_le a b ≡ true → a ≤ℤ b
int_le_true a b e = omega (arith, ints, e)

nat_le_true : (a b : ℕ) → nat_le a b ≡ true → a ≤ b
nat_le_true a b e = grind (arith, e)

-- what holds of a use that fits its kind
pub fits_schema : (schemas : List EffectSchema) (fx : Use) → FitsKind schemas fx → FitsSchema (schema_of schemas fx.kind) fx
fits_schema schemas fx fits = record { in_range = fits.in_range; layers_are = fits.layers_are; sequence_fits = fits.sequence_fits }

-- there are as many parameters as the schema says
pub in_range_count : (params : List ParamSchema) (keys : List (List Keyframe)) → AreInRange params keys → length keys ≡ length params
in_range_count [] [] h = refl
in_range_count [] (k ∷ ks) h = elim h [ ]
in_range_count (p ∷ ps) [] h = elim h [ ]
in_range_count (p ∷ ps) (k ∷ ks) h = omega (arith, in_range_count ps ks h.2)

-- the value of each parameter is in its range
pub value_in_range : (params : List ParamSchema) (keys : List (List Keyframe)) (base index : ℕ) (tick : ℤ) → AreInRange params keys
    → IsBetween (param_of params index).least (param_of params index).most (value_at base (slice_index_or keys index []) tick)
value_in_range [] [] base index tick h = (omega (arith, ints), omega (arith, ints))
value_in_range [] (k ∷ ks) base index tick h = elim h [ ]
value_in_range (p ∷ ps) [] base index tick h = elim h [ ]
value_in_range (p ∷ ps) (k ∷ ks) base zero tick h = value_within base k tick p.least p.most (omega (arith, h.0)) h.1
value_in_range (p ∷ ps) (k ∷ ks) base (suc i) tick h = value_in_range ps ks base i tick h.2

-- texts that differ by test
absent : (text : List ℕ) (texts : List (List ℕ)) → list_any (bytes_eq text) texts ≡ false → All (λ (other : List ℕ). other ≢ text) texts
absent text [] e = All-nil _
absent text (other ∷ rest) e = by (bytes_eq text other) refl e (absent text rest)
  where
    by : (b : Bool) → bytes_eq text other ≡ b → (b || list_any (bytes_eq text) rest) ≡ false → (list_any (bytes_eq text) rest ≡ false → All (λ (t : List ℕ). t ≢ text) rest)
        → All (λ (t : List ℕ). t ≢ text) (other ∷ rest)
    by true same gone later = absurd (differ gone)
    by false other_one gone later =
        All-cons (λ (t : List ℕ). t ≢ text) other rest (λ same. absurd (differ (sym ((bytes_eq-Decides text other).1 (sym same)) ∙ other_one))) (later gone)

distinct : (texts : List (List ℕ)) → are_different texts ≡ true → DistinctTexts texts
distinct [] e = tt
distinct (text ∷ texts) e =
    let parts = and_parts _ _ e in
    (absent text texts (not_true _ parts.0), distinct texts parts.1)

param_from_test : (param : ParamSchema) → is_param param ≡ true → IsParam param
param_from_test param e =
    let outer = and_parts _ _ e in
    let inner = and_parts _ _ outer.1 in
    let range : param.least ≤ℤ param.most = int_le_true _ _ outer.0 in
    let low : neg_ℤ (pos (2 ^ 40)) ≤ℤ param.least = int_le_true _ _ inner.0 in
    let high : param.most ≤ℤ pos (2 ^ 40) = int_le_true _ _ inner.1 in
    record { range = range; low = (low, omega (arith, ints, range, high)); high = (omega (arith, ints, range, low), high) }

-- schemas that pass the test
pub schemas_from_test : (schemas : List EffectSchema) → are_schemas schemas ≡ true → AreSchemas schemas
schemas_from_test schemas e =
    let outer = and_parts _ _ e in
    let inner = and_parts _ _ outer.1 in
    record { few = nat_le_true _ _ outer.0; names = distinct _ inner.0; params_are = all_params schemas inner.1 }
  where
    params : (ps : List ParamSchema) → list_all is_param ps ≡ true → All IsParam ps
    params [] e = All-nil _
    params (p ∷ ps) e = let parts = and_parts _ _ e in All-cons IsParam p ps (param_from_test p parts.0) (params ps parts.1)

    all_params : (ss : List EffectSchema) → list_all (λ (s : EffectSchema). list_all is_param s.params) ss ≡ true → All (λ (s : EffectSchema). All IsParam s.params) ss
    all_params [] e = All-nil _
    all_params (s ∷ ss) e = let parts = and_parts _ _ e in All-cons (λ (s : EffectSchema). All IsParam s.params) s ss (params s.params parts.0) (all_params ss parts.1)

-- a parameter that is not negative, as a whole number
pub part_within : (z : ℤ) (n : ℕ) → z ≤ℤ pos n → positive_part z ≤ n
part_within (pos m) n h = omega (arith, ints, h)
part_within (negsuc m) n h = omega arith

-- extents and planes by number
pub extent_of_plane : (planes : List Plane) (i : ℕ) → extent_at (extents_of planes) i ≡ (plane_at planes i).extent
extent_of_plane planes i = get_or-map (λ (plane : Plane). plane.extent) planes i record { extent = origin; at = λ x y. clear }

-- one want
pub own_wants_are : (layers : ℕ) (at : Moment) → IsHeld at.base.ticks at.tick.0 → AreWants layers at.base.ticks (own_wants at)
own_wants_are layers at held = record {
  few = omega arith;
  each = All-cons (IsWant layers at.base.ticks) record { input = 0; tick = at.tick } [] record { input_is = omega arith; held = held } (All-nil _);
}

pub no_asks_are : (classes layers base : ℕ) → AreAsks classes layers base []
no_asks_are classes layers base = record { few = omega arith; each = All-nil _ }

pub no_classes_are : AreClassNames no_classes
no_classes_are = record { few = omega arith; distinct = tt; none_is_plane = All-nil _ }

-- the bounds of an effect that are its input's extent
pub own_bounds_are : (extents : List Rect) → length extents ≡ 1 → IsBounds extents (own_bounds extents)
own_bounds_are [] count = absurd (omega (arith, count))
own_bounds_are (extent ∷ []) count = record { near = near; empty = λ all _. all 0 origin (omega arith) }
  where
    wider : Rect
    wider = record {
      left = extent.left -ℤ pos 1024;
      top = extent.top -ℤ pos 1024;
      right = extent.right +ℤ pos 1024;
      bottom = extent.bottom +ℤ pos 1024;
    }

    grown : (e : Bool) → is_empty extent ≡ e → (x y : ℤ) → Has extent x y → Has (grow_of (cover_of extent origin) (pos 1024)) x y
    grown true e x y h = absurd (no_point_from_true extent e x y h)
    grown false e x y h =
        subst (λ (r : Rect). Has (grow_of r (pos 1024)) x y) (sym (ap (λ (b : Bool). if b then origin else extent) e))
        (subst (λ (r : Rect). Has r x y) (sym (ap (λ (b : Bool). if b then extent else wider) e))
        (omega (arith, ints, h.0), omega (arith, ints, h.1), omega (arith, ints, h.2), omega (arith, ints, h.3)))

    near : IsWithin extent (grow_of (cover_all (extent ∷ [])) (pos 1024))
    near = grown (is_empty extent) refl
own_bounds_are (extent ∷ other ∷ rest) count = absurd (omega (arith, count))

-- each point is drawn from the input's own point
pub each_point_drawing : (most : ℕ) (sums_of : ℕ → ℕ → Plane → List ℕ) (asks : List Ask) (at : Moment) (planes : List Plane) (sums : List (List ℕ))
    (change : Argb → Argb) → ((p : Argb) → IsPremultiplied most p → IsPremultiplied most (change p))
    → IsInput most sums_of (own_wants at) asks planes sums → IsDrawing most (own_bounds (extents_of planes)) (each_point change planes)
each_point_drawing most sums_of asks at planes sums change keeps given = record {
  pixels = λ x y. pixel x y (has (plane_at planes 0).extent x y);
  outside = λ x y none. away x y none (has (plane_at planes 0).extent x y) refl;
}
  where
    plane : IsPlane most (plane_at planes 0)
    plane = given.planes_are 0 _ (omega (arith, given.one_each))

    pixel : (x y : ℤ) (b : Bool) → IsPremultiplied most (if b then change ((plane_at planes 0).at x y) else clear)
    pixel x y true = keeps _ (plane.pixels x y)
    pixel x y false = clear_premultiplied most

    away : (x y : ℤ) → ¬ Has (own_bounds (extents_of planes)) x y → (b : Bool) → has (plane_at planes 0).extent x y ≡ b
        → (if b then change ((plane_at planes 0).at x y) else clear) ≡ clear
    away x y none true e = absurd (none (subst (λ (r : Rect). Has r x y) (sym (extent_of_plane planes 0)) (Has-from_true (plane_at planes 0).extent x y e)))
    away x y none false e = refl

pub each_point_local : (most : ℕ) (sums_of : ℕ → ℕ → Plane → List ℕ) (asks : List Ask) (at : Moment) (extents : List Rect) (change : Argb → Argb)
    → IsLocal most sums_of (own_wants at) asks extents (λ rect i. rect) (λ planes sums. each_point change planes)
each_point_local most sums_of asks at extents change rect planes others sums given other_given extents_are other_extents agree x y inside =
    ap (λ (r : Rect). if has r x y then change ((plane_at planes 0).at x y) else clear) same
    ∙ ap (λ (p : Argb). if has (plane_at others 0).extent x y then change p else clear) (agree 0 (omega (arith, given.one_each)) x y inside)
  where
    same : (plane_at planes 0).extent ≡ (plane_at others 0).extent
    same = sym (extent_of_plane planes 0) ∙ ap (λ (rs : List Rect). extent_at rs 0) (extents_are ∙ sym other_extents) ∙ extent_of_plane others 0

-- the same of a picture that is checked out, where what is transparent stays so
pub each_point_shown : (change : Argb → Argb) → change clear ≡ clear → (world : Picture) → IsWithin world.part world.extent
    → (planes : List Plane) → plane_of world ≡ plane_at planes 0 → (x y : ℤ) → change (at world x y) ≡ each_point change planes x y
each_point_shown change stays world inside planes is x y =
    by (has world.extent x y) refl ∙ ap (λ (plane : Plane). if has plane.extent x y then change (plane.at x y) else clear) is
  where
    there : (c : Bool) → has world.part x y ≡ c → has world.extent x y ≡ false → at world x y ≡ clear
    there true f e = absurd (differ (sym (has-true world.extent x y (inside x y (Has-from_true world.part x y f))) ∙ e))
    there false f e = ap (λ (b : Bool). if b then slice_index_or world.pixels (place_of world.part x y) clear else clear) f

    by : (b : Bool) → has world.extent x y ≡ b → change (at world x y) ≡ (if b then change (at world x y) else clear)
    by true e = refl
    by false e = ap change (there (has world.part x y) refl e) ∙ stays

pub no_sums_few : (class ask : ℕ) (plane : Plane) → length (no_sums class ask plane) ≤ 65536
no_sums_few class ask plane = omega arith
