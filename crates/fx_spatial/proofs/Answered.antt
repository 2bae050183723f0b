-- What pre-render answers for the spatial effects.
use Rattle.std.proofs.Common.{◌≡◌, ◌↔◌, ℕ, zero, suc, ◌<◌, ◌≤◌, ℤ, pos, neg_ℤ, ◌-ℤ◌, ◌≤ℤ◌, Bool, true, false, List, [], ◌∷◌, slice_get, Option, Some, None, if◌then◌else◌, refl, ap, sym, subst, ◌∙◌, arith}
use Rattle.std.specs.Prelude.{IsTrue, not, ◌&&◌, ◌||◌, int_lt}
use Rattle.std.specs.Option.{unwrap_or}
use Rattle.std.proofs.lemmas.Int.{ints, clamps}
use Rattle.geom_rect.specs.declared.rect.Rect.{Rect}
use Rattle.geom_rect.specs.Rect.{Has, IsWithin, HasCoordinates, is_empty, origin, meet_of, hull_of, cover_of, shift_of, grow_of}
use Rattle.geom_rect.proofs.Points.{Has-meet_of, room_from_false, no_point_from_true, near_corner, grown, outside_from_within}
use Rattle.effect_api.specs.declared.moment.Moment.{Moment}
use Rattle.effect_api.specs.declared.moment.Want.{Want}
use Rattle.effect_api.specs.declared.pre_render.Checkout.{Checkout}
use Rattle.effect_api.specs.declared.pre_render.PreRender.{PreRender}
use Rattle.project_model.specs.Effects.{Use}
use Rattle.effect_api.specs.Fits.{FitsSchema}
use Rattle.effect_api.specs.Planes.{HasSides, extent_at}
use Rattle.effect_api.specs.Render.{AreExtents, IsResult, IsCheckout, AreCheckouts, AreExact}
use Rattle.fx_color.specs.Color.{amount_of, number_of}
use Rattle.fx_blur.specs.Mosaic.{blocks_of}
use Rattle.fx_blur.specs.Blocks.{none_meet, rect_within_blocks, blocks_within_extent}
use Rattle.fx_spatial.specs.declared.kind.SpatialKind.{SpatialKind}
use Rattle.fx_spatial.specs.declared.kind.SpatialKind.TheVariants.{Offset, BoxBlur, Mosaic, DropShadow, Displace}
use Rattle.fx_spatial.specs.Spatial.{spatial_schema, spatial_wants, want_now, bounds_over, result_over}
use Rattle.fx_spatial.specs.Asked.{leaves, asked, checkouts_of}
use Rattle.fx_spatial.specs.Laws.{radius_within, size_some, right_within, down_within, some_planes}

-- ---- sides that are not far away

-- sides within 500,000 of zero
abbrev IsClose : ℤ → Type 0
IsClose z = (neg_ℤ (pos 500000) ≤ℤ z) × (z ≤ℤ pos 500000)

abbrev AreClose : Rect → Type 0
AreClose r = IsClose r.left × IsClose r.top × IsClose r.right × IsClose r.bottom

sides_close : (r : Rect) → HasSides r → AreClose r
sides_close r h = (
  (omega (arith, ints, h.left_near.0), omega (arith, ints, h.left_near.1)),
  (omega (arith, ints, h.top_near.0), omega (arith, ints, h.top_near.1)),
  (omega (arith, ints, h.right_near.0), omega (arith, ints, h.right_near.1)),
  (omega (arith, ints, h.bottom_near.0), omega (arith, ints, h.bottom_near.1)),
)

pub sides_coordinates : (r : Rect) → HasSides r → HasCoordinates r
sides_coordinates r h = (
  (omega (arith, ints, h.left_near.0), omega (arith, ints, h.left_near.1)),
  (omega (arith, ints, h.top_near.0), omega (arith, ints, h.top_near.1)),
  (omega (arith, ints, h.right_near.0), omega (arith, ints, h.right_near.1)),
  (omega (arith, ints, h.bottom_near.0), omega (arith, ints, h.bottom_near.1)),
)

close_coordinates : (r : Rect) → AreClose r → HasCoordinates r
close_coordinates r h = (
  (omega (arith, ints, h.0.0), omega (arith, ints, h.0.1)),
  (omega (arith, ints, h.1.0), omega (arith, ints, h.1.1)),
  (omega (arith, ints, h.2.0), omega (arith, ints, h.2.1)),
  (omega (arith, ints, h.3.0), omega (arith, ints, h.3.1)),
)

meet_close : (a b : Rect) → AreClose a → AreClose b → AreClose (meet_of a b)
meet_close a b h k = (
  (omega (arith, ints, clamps, h.0.0, k.0.0), omega (arith, ints, clamps, h.0.1, k.0.1)),
  (omega (arith, ints, clamps, h.1.0, k.1.0), omega (arith, ints, clamps, h.1.1, k.1.1)),
  (omega (arith, ints, clamps, h.2.0, k.2.0), omega (arith, ints, clamps, h.2.1, k.2.1)),
  (omega (arith, ints, clamps, h.3.0, k.3.0), omega (arith, ints, clamps, h.3.1, k.3.1)),
)

hull_close : (a b : Rect) → AreClose a → AreClose b → AreClose (hull_of a b)
hull_close a b h k = (
  (omega (arith, ints, clamps, h.0.0, k.0.0), omega (arith, ints, clamps, h.0.1, k.0.1)),
  (omega (arith, ints, clamps, h.1.0, k.1.0), omega (arith, ints, clamps, h.1.1, k.1.1)),
  (omega (arith, ints, clamps, h.2.0, k.2.0), omega (arith, ints, clamps, h.2.1, k.2.1)),
  (omega (arith, ints, clamps, h.3.0, k.3.0), omega (arith, ints, clamps, h.3.1, k.3.1)),
)

origin_close : AreClose origin
origin_close = (
  (omega (arith, ints), omega (arith, ints)),
  (omega (arith, ints), omega (arith, ints)),
  (omega (arith, ints), omega (arith, ints)),
  (omega (arith, ints), omega (arith, ints)),
)

cover_close : (a b : Rect) → AreClose a → AreClose b → AreClose (cover_of a b)
cover_close a b h k = by (is_empty a) (is_empty b)
  where
    by : (s t : Bool) → AreClose (if s then (if t then origin else b) else (if t then a else hull_of a b))
    by true true = origin_close
    by true false = k
    by false true = h
    by false false = hull_close a b h k

shift_close : (a : Rect) (dx dy : ℤ) → HasSides a → neg_ℤ (pos 1024) ≤ℤ dx → dx ≤ℤ pos 1024 → neg_ℤ (pos 1024) ≤ℤ dy → dy ≤ℤ pos 1024 → AreClose (shift_of a dx dy)
shift_close a dx dy h left right up down = (
  (omega (arith, ints, h.left_near.0, left, right), omega (arith, ints, h.left_near.1, left, right)),
  (omega (arith, ints, h.top_near.0, up, down), omega (arith, ints, h.top_near.1, up, down)),
  (omega (arith, ints, h.right_near.0, left, right), omega (arith, ints, h.right_near.1, left, right)),
  (omega (arith, ints, h.bottom_near.0, up, down), omega (arith, ints, h.bottom_near.1, up, down)),
)

grow_close : (a : Rect) (n : ℕ) → HasSides a → n ≤ 128 → AreClose (grow_of a (pos n))
grow_close a n h few = by (is_empty a)
  where
    by : (s : Bool) → AreClose (if s then a else grown a (pos n))
    by true = sides_close a h
    by false = (
      (omega (arith, ints, h.left_near.0, few), omega (arith, ints, h.left_near.1, few)),
      (omega (arith, ints, h.top_near.0, few), omega (arith, ints, h.top_near.1, few)),
      (omega (arith, ints, h.right_near.0, few), omega (arith, ints, h.right_near.1, few)),
      (omega (arith, ints, h.bottom_near.0, few), omega (arith, ints, h.bottom_near.1, few)),
    )

blocks_close : (size : ℕ) (extent rect : Rect) → 0 < size → HasSides extent → AreClose (blocks_of size extent rect)
blocks_close size extent rect some h = by (is_empty (meet_of rect extent)) refl
  where
    by : (e : Bool) → is_empty (meet_of rect extent) ≡ e → AreClose (blocks_of size extent rect)
    by true e = subst AreClose (sym (none_meet size extent rect e)) origin_close
    by false e =
        let met = (Has-meet_of rect extent _ _).0 (near_corner (meet_of rect extent) (room_from_false (meet_of rect extent) e)) in
        let point = rect_within_blocks size extent rect _ _ some met.0 met.1 in
        let out = outside_from_within (blocks_of size extent rect) extent
        record { across = omega (arith, ints, point.0, point.1); down = omega (arith, ints, point.2, point.3) } (blocks_within_extent size extent rect some) in (
          (omega (arith, ints, out.left, h.left_near.0), omega (arith, ints, point.0, point.1, out.right, h.right_near.1)),
          (omega (arith, ints, out.top, h.top_near.0), omega (arith, ints, point.2, point.3, out.bottom, h.bottom_near.1)),
          (omega (arith, ints, point.0, point.1, out.left, h.left_near.0), omega (arith, ints, out.right, h.right_near.1)),
          (omega (arith, ints, point.2, point.3, out.top, h.top_near.0), omega (arith, ints, out.bottom, h.bottom_near.1)),
        )

-- the sides of what is drawn
pub result_near : (kind : SpatialKind) (fx : Use) (at : Moment) (extent request : Rect) → FitsSchema (spatial_schema kind) fx → HasSides extent → HasSides request
    → HasCoordinates (result_over kind fx at extent request)
result_near Offset fx at extent request fits h k = close_coordinates _ (meet_close request extent (sides_close request k) (sides_close extent h))
result_near BoxBlur fx at extent request fits h k =
    close_coordinates _ (meet_close request _ (sides_close request k) (grow_close extent (amount_of fx 0 at) h (radius_within fx at fits)))
result_near Mosaic fx at extent request fits h k = close_coordinates _ (blocks_close (amount_of fx 0 at) extent request (size_some fx at fits) h)
result_near DropShadow fx at extent request fits h k =
    let right = right_within fx at fits in
    let down = down_within fx at fits in
    close_coordinates _ (meet_close request _ (sides_close request k)
    (cover_close extent _ (sides_close extent h) (shift_close extent (number_of fx 0 at) (number_of fx 1 at) h right.0 right.1 down.0 down.1)))
result_near Displace fx at extent request fits h k = close_coordinates _ (meet_close request extent (sides_close request k) (sides_close extent h))

pub first_near : (kind : SpatialKind) (at : Moment) (extents : List Rect) → AreExtents (spatial_wants kind at) extents → HasSides (extent_at extents 0)
first_near kind at extents given = given.near 0 origin (omega (arith, given.one_each, some_planes kind at))

-- ---- what is drawn

met_inside : (a b : Rect) → IsWithin (meet_of a b) b
met_inside a b x y h = ((Has-meet_of a b x y).0 h).1

pub result_inside : (kind : SpatialKind) (fx : Use) (at : Moment) (extent request : Rect) → FitsSchema (spatial_schema kind) fx
    → IsWithin (result_over kind fx at extent request) (bounds_over kind fx at extent)
result_inside Offset fx at extent request fits = met_inside request extent
result_inside BoxBlur fx at extent request fits = met_inside request (bounds_over BoxBlur fx at extent)
result_inside Mosaic fx at extent request fits = blocks_within_extent (amount_of fx 0 at) extent request (size_some fx at fits)
result_inside DropShadow fx at extent request fits = met_inside request (bounds_over DropShadow fx at extent)
result_inside Displace fx at extent request fits = met_inside request extent

pub result_whole : (kind : SpatialKind) (fx : Use) (at : Moment) (extent request : Rect) → FitsSchema (spatial_schema kind) fx
    → (x y : ℤ) → Has request x y → Has (bounds_over kind fx at extent) x y → Has (result_over kind fx at extent request) x y
result_whole Offset fx at extent request fits x y r b = (Has-meet_of request extent x y).1 (r, b)
result_whole BoxBlur fx at extent request fits x y r b = (Has-meet_of request (bounds_over BoxBlur fx at extent) x y).1 (r, b)
result_whole Mosaic fx at extent request fits x y r b = rect_within_blocks (amount_of fx 0 at) extent request x y (size_some fx at fits) r b
result_whole DropShadow fx at extent request fits x y r b = (Has-meet_of request (bounds_over DropShadow fx at extent) x y).1 (r, b)
result_whole Displace fx at extent request fits x y r b = (Has-meet_of request extent x y).1 (r, b)

-- ---- whether there is more than was asked for

pub leaves_is : (rect other : Rect) → IsTrue (leaves rect other) ↔ ((x : ℤ) × (y : ℤ) × Has rect x y × ¬ Has other x y)
leaves_is rect other = (
  there (is_empty rect) refl (int_lt rect.left other.left) refl (int_lt rect.top other.top) refl (int_lt other.right rect.right) refl (int_lt other.bottom rect.bottom) refl,
  λ p. back (is_empty rect) refl (int_lt rect.left other.left) refl (int_lt rect.top other.top) refl (int_lt other.right rect.right) refl (int_lt other.bottom rect.bottom) refl p.0 p.1 p.2 p.3,
)
  where
    there : (e : Bool) → is_empty rect ≡ e → (a : Bool) → int_lt rect.left other.left ≡ a → (b : Bool) → int_lt rect.top other.top ≡ b
        → (c : Bool) → int_lt other.right rect.right ≡ c → (d : Bool) → int_lt other.bottom rect.bottom ≡ d
        → IsTrue (not e && (a || (b || (c || d)))) → (x : ℤ) × (y : ℤ) × Has rect x y × ¬ Has other x y
    there true e a la b lb c lc d ld h = absurd cc
    there false e true la b lb c lc d ld h =
        (rect.left, rect.top, near_corner rect (room_from_false rect e), λ k. omega (arith, ints, la, k.0))
    there false e false la true lb c lc d ld h =
        (rect.left, rect.top, near_corner rect (room_from_false rect e), λ k. omega (arith, ints, lb, k.2))
    there false e false la false lb true lc d ld h =
        let room = room_from_false rect e in
        (rect.right -ℤ pos 1, rect.top, (omega (arith, ints, room.across), omega (arith, ints), omega (arith, ints), omega (arith, ints, room.down)), λ k. omega (arith, ints, lc, k.1))
    there false e false la false lb false lc true ld h =
        let room = room_from_false rect e in
        (rect.left, rect.bottom -ℤ pos 1, (omega (arith, ints), omega (arith, ints, room.across), omega (arith, ints, room.down), omega (arith, ints)), λ k. omega (arith, ints, ld, k.3))
    there false e false la false lb false lc false ld h = absurd cc

    back : (e : Bool) → is_empty rect ≡ e → (a : Bool) → int_lt rect.left other.left ≡ a → (b : Bool) → int_lt rect.top other.top ≡ b
        → (c : Bool) → int_lt other.right rect.right ≡ c → (d : Bool) → int_lt other.bottom rect.bottom ≡ d
        → (x y : ℤ) → Has rect x y → ¬ Has other x y → IsTrue (not e && (a || (b || (c || d))))
    back true e a la b lb c lc d ld x y h k = absurd (no_point_from_true rect e x y h)
    back false e true la b lb c lc d ld x y h k = refl
    back false e false la true lb c lc d ld x y h k = refl
    back false e false la false lb true lc d ld x y h k = refl
    back false e false la false lb false lc true ld x y h k = refl
    back false e false la false lb false lc false ld x y h k =
        absurd (k (omega (arith, ints, la, h.0), omega (arith, ints, lc, h.1), omega (arith, ints, lb, h.2), omega (arith, ints, ld, h.3)))

pub answered_result : (kind : SpatialKind) (fx : Use) (at : Moment) (extent request : Rect) (pre : PreRender) → FitsSchema (spatial_schema kind) fx
    → pre.max_result_rect ≡ bounds_over kind fx at extent → pre.result_rect ≡ result_over kind fx at extent request → pre.extra ≡ leaves pre.result_rect request
    → IsResult (bounds_over kind fx at extent) request pre
answered_result kind fx at extent request pre fits most is more = record {
  most = most;
  inside = subst (λ (r : Rect). IsWithin r (bounds_over kind fx at extent)) (sym is) (result_inside kind fx at extent request fits);
  whole = λ x y r b. subst (λ (s : Rect). Has s x y) (sym is) (result_whole kind fx at extent request fits x y r b);
  more = subst (λ (t : Bool). IsTrue t ↔ ((x : ℤ) × (y : ℤ) × Has pre.result_rect x y × ¬ Has request x y)) (sym more) (leaves_is pre.result_rect request);
}

-- ---- what is checked out

some_is : {X : Type 0} (x y : X) → Some x ≡ Some y → x ≡ y
some_is x y e = ap (λ (o : Option _). unwrap_or o x) e

none_some : {X : Type 0} (x : X) → None ≡ Some x → ⊥
none_some x e = cc

is_asked : (want : Want) (number : ℕ) (need extent : Rect) (found : Want) (checkout : Checkout) → want ≡ found → asked want number need extent ≡ checkout
    → IsCheckout found number extent need checkout
is_asked want number need extent found checkout w c = record {
  id_is = ap (λ (k : Checkout). k.id) (sym c);
  want_is = ap (λ (k : Checkout). k.want) (sym c) ∙ w;
  enough = λ x y n e. subst (λ (k : Checkout). Has k.request x y) c ((Has-meet_of need extent x y).1 (n, e));
}

exact_asked : (want : Want) (number : ℕ) (need extent : Rect) (checkout : Checkout) → asked want number need extent ≡ checkout
    → (x y : ℤ) → Has checkout.request x y ↔ (Has need x y × Has extent x y)
exact_asked want number need extent checkout c x y = subst (λ (k : Checkout). Has k.request x y ↔ (Has need x y × Has extent x y)) c (Has-meet_of need extent x y)

module _ (extents : List Rect) (need : ℕ → Rect) where
  one_asked : (w : Want) → AreCheckouts (w ∷ []) extents need (asked w 0 (need 0) (extent_at extents 0) ∷ [])
  one_asked w = record { one_each = refl; each = each }
    where
      each : (i : ℕ) (want : Want) (checkout : Checkout) → slice_get (w ∷ []) i ≡ Some want → slice_get (asked w 0 (need 0) (extent_at extents 0) ∷ []) i ≡ Some checkout
          → IsCheckout want i (extent_at extents i) (need i) checkout
      each zero want checkout e f = is_asked w 0 (need 0) (extent_at extents 0) want checkout (some_is _ _ e) (some_is _ _ f)
      each (suc i) want checkout e f = absurd (none_some want e)

  one_exact : (w : Want) → AreExact extents need (asked w 0 (need 0) (extent_at extents 0) ∷ [])
  one_exact w zero checkout f = exact_asked w 0 (need 0) (extent_at extents 0) checkout (some_is _ _ f)
  one_exact w (suc i) checkout f = absurd (none_some checkout f)

  two_asked : (w v : Want) → AreCheckouts (w ∷ v ∷ []) extents need (asked w 0 (need 0) (extent_at extents 0) ∷ asked v 1 (need 1) (extent_at extents 1) ∷ [])
  two_asked w v = record { one_each = refl; each = each }
    where
      each : (i : ℕ) (want : Want) (checkout : Checkout) → slice_get (w ∷ v ∷ []) i ≡ Some want
          → slice_get (asked w 0 (need 0) (extent_at extents 0) ∷ asked v 1 (need 1) (extent_at extents 1) ∷ []) i ≡ Some checkout
          → IsCheckout want i (extent_at extents i) (need i) checkout
      each zero want checkout e f = is_asked w 0 (need 0) (extent_at extents 0) want checkout (some_is _ _ e) (some_is _ _ f)
      each (suc zero) want checkout e f = is_asked v 1 (need 1) (extent_at extents 1) want checkout (some_is _ _ e) (some_is _ _ f)
      each (suc (suc i)) want checkout e f = absurd (none_some want e)

  two_exact : (w v : Want) → AreExact extents need (asked w 0 (need 0) (extent_at extents 0) ∷ asked v 1 (need 1) (extent_at extents 1) ∷ [])
  two_exact w v zero checkout f = exact_asked w 0 (need 0) (extent_at extents 0) checkout (some_is _ _ f)
  two_exact w v (suc zero) checkout f = exact_asked v 1 (need 1) (extent_at extents 1) checkout (some_is _ _ f)
  two_exact w v (suc (suc i)) checkout f = absurd (none_some checkout f)

  pub answered_checkouts : (kind : SpatialKind) (at : Moment) → AreCheckouts (spatial_wants kind at) extents need (checkouts_of kind at extents (need 0) (need 1))
  answered_checkouts Offset at = one_asked (want_now 0 at)
  answered_checkouts BoxBlur at = one_asked (want_now 0 at)
  answered_checkouts Mosaic at = one_asked (want_now 0 at)
  answered_checkouts DropShadow at = one_asked (want_now 0 at)
  answered_checkouts Displace at = two_asked (want_now 0 at) (want_now 1 at)

  pub answered_exact : (kind : SpatialKind) (at : Moment) → AreExact extents need (checkouts_of kind at extents (need 0) (need 1))
  answered_exact Offset at = one_exact (want_now 0 at)
  answered_exact BoxBlur at = one_exact (want_now 0 at)
  answered_exact Mosaic at = one_exact (want_now 0 at)
  answered_exact DropShadow at = one_exact (want_now 0 at)
  answered_exact Displace at = two_exact (want_now 0 at) (want_now 1 at)
