-- An effect that looks two points further than it draws, at its input of two ticks, and asks for an analysis.
use Rattle.std.specs.Prelude.{codes}
use Rattle.std.proofs.Common.{◌≡◌, ◌≢◌, ℕ, ℤ, pos, Bool, true, false, List, [], ◌∷◌, length, if◌then◌else◌, refl, sym, subst, ap, ◌∙◌, arith}
use Rattle.std.proofs.lemmas.Int.{ints, clamps}
use Rattle.std.proofs.lemmas.List.Elements.{All-nil, All-cons}
use Rattle.geom_rect.specs.declared.rect.Rect.{Rect}
use Rattle.geom_rect.specs.Rect.{IsWithin, is_empty, HasCoordinates, origin, meet_of, cover_of, grow_of, hull_of}
use Rattle.geom_rect.proofs.Points.{Has-grow_of, empty_within, within-hull_left}
use Rattle.argb_pixel.specs.Pixel.{Argb}
use Rattle.comp_stack.specs.Stack.{Plane}
use Rattle.project_model.specs.declared.effect.EffectSchema.{EffectSchema}
use Rattle.project_model.specs.Effects.{AreSchemas}
use Rattle.effect_api.specs.declared.moment.Moment.{Moment}
use Rattle.effect_api.specs.declared.moment.Want.{Want}
use Rattle.effect_api.specs.declared.moment.Ask.{Ask}
use Rattle.effect_api.specs.Fits.{IsHeld}
use Rattle.effect_api.specs.Planes.{IsPlane, HasSides, AgreeOnNeed, plane_at, extent_at, extents_of, cover_all}
use Rattle.effect_api.specs.Wants.{AreClassNames, IsWant, AreWants, IsAsk, AreAsks, IsBounds}
use Rattle.effect_api.specs.Effects.{IsInput, IsDrawing, IsLocal}
use Rattle.effect_api.specs.Own.{own_wants, own_bounds, no_sums, each_point}
use Rattle.effect_api.specs.Schemas.{plain_effect}
use Rattle.effect_api.specs.Laws.{schemas_from_test, extent_of_plane, each_point_drawing, each_point_local}

abbrev pub wide_schemas : List EffectSchema
wide_schemas = plain_effect (codes "Wide") [] ∷ []

abbrev pub wide_classes : List (List ℕ)
wide_classes = codes "counts" ∷ []

-- the input at the moment's tick, and at tick 0
abbrev pub wide_wants : Moment → List Want
wide_wants at = record { input = 0; tick = at.tick } ∷ record { input = 0; tick = record { 0 = pos 0 } } ∷ []

abbrev pub wide_asks : Moment → List Ask
wide_asks at = record { class = 1; ask = 7; want = record { input = 0; tick = at.tick } } ∷ []

-- of both it looks two points further
abbrev pub wide_need : Rect → Rect
wide_need rect = grow_of rect (pos 2)

-- the input's own pixels
abbrev pub wide_draws : List Plane → ℤ → ℤ → Argb
wide_draws planes = each_point (λ p. p) planes

pub wide_schemas_are : AreSchemas wide_schemas
wide_schemas_are = schemas_from_test wide_schemas refl

pub wide_classes_are : AreClassNames wide_classes
wide_classes_are = record {
  few = omega arith;
  distinct = (All-nil _, tt);
  none_is_plane = All-cons (λ (name : List ℕ). name ≢ codes "plane") (codes "counts") [] (λ same. differ (length (codes "counts")) (length (codes "plane")) refl refl (ap length same)) (All-nil _);
}
  where
    differ : (six five : ℕ) → six ≡ 6 → five ≡ 5 → six ≡ five → ⊥
    differ six five is_six is_five e = omega (arith, is_six, is_five, e)

start_is_held : (base : ℕ) → IsHeld base (pos 0)
start_is_held base = omega (arith, ints, clamps)

own_want_is : (layers : ℕ) (at : Moment) → IsHeld at.base.ticks at.tick.0 → IsWant layers at.base.ticks (record { input = 0; tick = at.tick })
own_want_is layers at held = record { input_is = omega arith; held = held }

pub wide_wants_are : (layers : ℕ) (at : Moment) → IsHeld at.base.ticks at.tick.0 → AreWants layers at.base.ticks (wide_wants at)
wide_wants_are layers at held = record {
  few = omega arith;
  each =
      All-cons (IsWant layers at.base.ticks) record { input = 0; tick = at.tick } (record { input = 0; tick = record { 0 = pos 0 } } ∷ []) (own_want_is layers at held)
      (All-cons (IsWant layers at.base.ticks) record { input = 0; tick = record { 0 = pos 0 } } [] start_is (All-nil _));
}
  where
    start_is : IsWant layers at.base.ticks (record { input = 0; tick = record { 0 = pos 0 } })
    start_is = record { input_is = omega arith; held = start_is_held at.base.ticks }

pub wide_asks_are : (layers : ℕ) (at : Moment) → IsHeld at.base.ticks at.tick.0 → AreAsks (length wide_classes) layers at.base.ticks (wide_asks at)
wide_asks_are layers at held = record { few = omega arith; each = All-cons (IsAsk 1 layers at.base.ticks) record { class = 1; ask = 7; want = record { input = 0; tick = at.tick } } [] ask_is (All-nil _) }
  where
    ask_is : IsAsk 1 layers at.base.ticks (record { class = 1; ask = 7; want = record { input = 0; tick = at.tick } })
    ask_is = record { class_low = omega arith; class_high = omega arith; number = omega arith; over = own_want_is layers at held }

within_cover : (a b : Rect) → IsWithin a (cover_of a b)
within_cover a b = by (is_empty a) refl (is_empty b)
  where
    by : (s : Bool) → is_empty a ≡ s → (t : Bool) → IsWithin a (if s then (if t then origin else b) else (if t then a else hull_of a b))
    by true e t = empty_within a _ e
    by false e true = λ x y h. h
    by false e false = within-hull_left a b

within_grown : (rect : Rect) (n : ℕ) → IsWithin rect (grow_of rect (pos n))
within_grown rect n x y h =
    (Has-grow_of rect (pos n) x y (omega (arith, ints))).1
    (x, y, h, (omega (arith, ints), omega (arith, ints)), (omega (arith, ints), omega (arith, ints)))

pub wide_bounds_are : (extents : List Rect) → length extents ≡ 2 → IsBounds extents (own_bounds extents)
wide_bounds_are [] count = absurd (omega (arith, count))
wide_bounds_are (extent ∷ rest) count = record {
  near = λ x y h. within_grown (cover_of extent (cover_all rest)) 1024 x y (within_cover extent (cover_all rest) x y h);
  empty = λ all _. all 0 origin (omega arith);
}

-- with its first plane as the only one
first_given : (most : ℕ) (at : Moment) (planes : List Plane) (sums : List (List ℕ)) → IsInput most no_sums (wide_wants at) (wide_asks at) planes sums
    → IsInput most no_sums (own_wants at) (wide_asks at) (plane_at planes 0 ∷ []) sums
first_given most at planes sums given = record {
  depth = given.depth;
  planes_are = All-cons (IsPlane most) (plane_at planes 0) [] (given.planes_are 0 _ (omega (arith, given.one_each))) (All-nil _);
  one_each = refl;
  sums_are = given.sums_are;
}

pub wide_drawing : (most : ℕ) (at : Moment) (planes : List Plane) (sums : List (List ℕ)) → IsInput most no_sums (wide_wants at) (wide_asks at) planes sums
    → IsDrawing most (own_bounds (extents_of planes)) (wide_draws planes)
wide_drawing most at planes sums given =
    subst (λ (r : Rect). IsDrawing most r (wide_draws planes)) (sym (extent_of_plane planes 0))
    (each_point_drawing most no_sums (wide_asks at) at (plane_at planes 0 ∷ []) sums (λ p. p) (λ p is. is) (first_given most at planes sums given))

pub wide_local : (most : ℕ) (at : Moment) (extents : List Rect)
    → IsLocal most no_sums (wide_wants at) (wide_asks at) extents (λ rect i. wide_need rect) (λ planes sums. wide_draws planes)
wide_local most at extents rect planes others sums given other_given extents_are other_extents agree x y inside =
    each_point_local most no_sums (wide_asks at) at (extent_at extents 0 ∷ []) (λ p. p) rect (plane_at planes 0 ∷ []) (plane_at others 0 ∷ []) sums
    (first_given most at planes sums given) (first_given most at others sums other_given) (alone planes extents_are) (alone others other_extents) near x y inside
  where
    alone : (ps : List Plane) → extents_of ps ≡ extents → extents_of (plane_at ps 0 ∷ []) ≡ extent_at extents 0 ∷ []
    alone ps e = ap (λ (r : Rect). r ∷ []) (sym (extent_of_plane ps 0) ∙ ap (λ (rs : List Rect). extent_at rs 0) e)

    near : AgreeOnNeed (λ i. rect) (plane_at planes 0 ∷ []) (plane_at others 0 ∷ [])
    near i low u v h =
        subst (λ (n : ℕ). (plane_at (plane_at planes 0 ∷ []) n).at u v ≡ (plane_at (plane_at others 0 ∷ []) n).at u v) (sym only)
        (agree 0 (omega (arith, given.one_each)) u v (within_grown rect 2 u v h))
      where
        only : i ≡ 0
        only = omega (arith, low)

-- what is in two rectangles that are near may be grown
pub meet_may_grow : (a b : Rect) → HasSides a → HasSides b → HasCoordinates (meet_of a b)
meet_may_grow a b near also =
    let al = near.left_near in
    let at = near.top_near in
    let ar = near.right_near in
    let ab = near.bottom_near in
    let bl = also.left_near in
    let bt = also.top_near in
    let br = also.right_near in
    let bb = also.bottom_near in (
      (omega (arith, ints, clamps, al.0, bl.0), omega (arith, ints, clamps, al.1, bl.1)),
      (omega (arith, ints, clamps, at.0, bt.0), omega (arith, ints, clamps, at.1, bt.1)),
      (omega (arith, ints, clamps, ar.0, br.0), omega (arith, ints, clamps, ar.1, br.1)),
      (omega (arith, ints, clamps, ab.0, bb.0), omega (arith, ints, clamps, ab.1, bb.1)),
    )
