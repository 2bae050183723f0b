-- What is drawn of a plane for a request.
use Rattle.std.proofs.Common.{get_or, ◌≡◌, ◌↔◌, ℕ, zero, suc, ◌≤◌, ℤ, pos, negsuc, w32, ◌-ℤ◌, neg_ℤ, ◌≤ℤ◌, Bool, true, false, if◌then◌else◌, refl, sym, ap, subst, ◌∙◌, arith}
use Rattle.std.specs.Prelude.{Result, Ok, Err, IfOk}
use Rattle.std.specs.Int.{int_min}
use Rattle.std.specs.Int.RustNames.{FitsSigned}
use Rattle.std.proofs.lemmas.Int.{ints, clamps}
use Rattle.geom_rect.specs.declared.rect.Rect.{Rect}
use Rattle.geom_rect.specs.Rect.{Has, IsWithin, has, meet_of, is_empty, origin, shift_of, frame_rect}
use Rattle.geom_rect.proofs.Points.{Has-meet_of, no_point_from_true, Has-from_true, has-true, room_from_false, outside_from_within}
use Rattle.argb_pixel.specs.Pixel.{clear}
use Rattle.argb_world.specs.Picture.{Picture, AgreesOn, at, place_of}
use Rattle.comp_stack.specs.Stack.{Plane}
use Rattle.comp_stack.specs.Layers.{IsPosition, plane_of}
use Rattle.effect_api.specs.Planes.{HasSides}
use Rattle.smart_plan.specs.Plan.{trimmed}
use Rattle.smart_plan.proofs.Trimming.{Has-trimmed}
use Rattle.frame_draw.specs.Areas.{IsArea, IsPartOf, StandsFor, area_in}

pub outside : (p : Picture) (x y : ℤ) → has p.part x y ≡ false → at p x y ≡ clear
outside p x y e = ap (λ (b : Bool). if b then get_or p.pixels (place_of p.part x y) clear else clear) e

-- it has what is requested of the extent
pub area_points : (extent request : Rect) (x y : ℤ) → Has (area_in extent request) x y ↔ (Has extent x y × Has request x y)
area_points extent request x y =
    let cut = Has-trimmed (meet_of extent request) x y in
    let both = Has-meet_of extent request x y in
    (λ h. both.0 (cut.0 h), λ h. cut.1 (both.1 h))

pub area_inside : (extent request : Rect) → IsWithin (area_in extent request) extent
area_inside extent request x y h = ((area_points extent request x y).0 h).0

-- it is a part of a picture, where the extent is a frame
pub area_is : (w h : ℕ) (request : Rect) → w ≤ 4096 → h ≤ 4096 → IsArea (area_in (frame_rect w h) request)
area_is w h request wide high = by (is_empty (meet_of (frame_rect w h) request)) refl
  where
    none : IsArea origin
    none = record {
      left_in = (omega (arith, ints), omega (arith, ints));
      top_in = (omega (arith, ints), omega (arith, ints));
      right_in = (omega (arith, ints), omega (arith, ints));
      bottom_in = (omega (arith, ints), omega (arith, ints));
    }

    by : (e : Bool) → is_empty (meet_of (frame_rect w h) request) ≡ e → IsArea (if e then origin else meet_of (frame_rect w h) request)
    by true e = none
    by false e =
        let room = room_from_false (meet_of (frame_rect w h) request) e in
        let out = outside_from_within (meet_of (frame_rect w h) request) (frame_rect w h) room (λ x y i. ((Has-meet_of (frame_rect w h) request x y).0 i).0) in
        record {
          left_in = (omega (arith, ints, out.left), omega (arith, ints, room.across, out.right, wide));
          top_in = (omega (arith, ints, out.top), omega (arith, ints, room.down, out.bottom, high));
          right_in = (omega (arith, ints, room.across, out.left), omega (arith, ints, out.right, wide));
          bottom_in = (omega (arith, ints, room.down, out.top), omega (arith, ints, out.bottom, high));
        }

-- and of a picture of that size
pub area_part : (w h : ℕ) (request : Rect) → IsPartOf w h (area_in (frame_rect w h) request)
area_part w h request = by (is_empty (meet_of (frame_rect w h) request)) refl
  where
    none : IsPartOf w h origin
    none = record {
      left_in = omega (arith, ints);
      across = omega (arith, ints);
      right_in = omega (arith, ints);
      top_in = omega (arith, ints);
      down = omega (arith, ints);
      bottom_in = omega (arith, ints);
    }

    by : (e : Bool) → is_empty (meet_of (frame_rect w h) request) ≡ e → IsPartOf w h (if e then origin else meet_of (frame_rect w h) request)
    by true e = none
    by false e =
        let room = room_from_false (meet_of (frame_rect w h) request) e in
        let out = outside_from_within (meet_of (frame_rect w h) request) (frame_rect w h) room (λ x y i. ((Has-meet_of (frame_rect w h) request x y).0 i).0) in
        record {
          left_in = out.left;
          across = omega (arith, ints, room.across);
          right_in = out.right;
          top_in = out.top;
          down = omega (arith, ints, room.down);
          bottom_in = out.bottom;
        }

-- ---- worlds that stand for planes

-- the plane itself
pub stands_whole : (request : Rect) (plane : Plane) (world : Picture) → plane_of world ≡ plane → StandsFor request plane world
stands_whole request plane world is = record {
  extent = ap (λ (p : Plane). p.extent) is;
  agrees = λ x y h. ap (λ (p : Plane). p.at x y) is;
}

pub stands_ok : {E : Type 0} (request : Rect) (plane : Plane) (made : Result Picture E) → IfOk made (λ w. plane_of w ≡ plane) → IfOk made (StandsFor request plane)
stands_ok request plane (Ok w) is = stands_whole request plane w is
stands_ok request plane (Err e) is = tt

pub stands_by : {E : Type 0} (request : Rect) (a b : Plane) (made : Result Picture E) → a ≡ b → IfOk made (StandsFor request a) → IfOk made (StandsFor request b)
stands_by request a b made e is = subst (λ (p : Plane). IfOk made (StandsFor request p)) e is

pub differ : ¬ (true ≡ false)
differ e = cc

-- a picture that shows the plane where its frame is requested, and whose plane shows nothing outside that frame
pub stands_in : (request frame : Rect) (plane : Plane) (world : Picture) → world.extent ≡ frame → world.part ≡ area_in frame request → plane.extent ≡ frame
    → ((x y : ℤ) → ¬ Has frame x y → plane.at x y ≡ clear) → ((x y : ℤ) → Has (area_in frame request) x y → at world x y ≡ plane.at x y) → StandsFor request plane world
stands_in request frame plane world extent part same beyond shows = record {
  extent = extent ∙ sym same;
  agrees = λ x y asked. by x y asked (has frame x y) refl;
}
  where
    none : (x y : ℤ) → has frame x y ≡ false → ¬ Has frame x y
    none x y e h = differ (sym (has-true frame x y h) ∙ e)

    off : (x y : ℤ) (b : Bool) → has (area_in frame request) x y ≡ b → has frame x y ≡ false → has world.part x y ≡ false
    off x y true e f = absurd (none x y f (area_inside frame request x y (Has-from_true (area_in frame request) x y e)))
    off x y false e f = ap (λ (r : Rect). has r x y) part ∙ e

    by : (x y : ℤ) → Has request x y → (b : Bool) → has frame x y ≡ b → at world x y ≡ plane.at x y
    by x y asked true e = shows x y ((area_points frame request x y).1 (Has-from_true frame x y e, asked))
    by x y asked false e = outside world x y (off x y (has (area_in frame request) x y) refl e) ∙ sym (beyond x y (none x y e))

-- it is the plane itself, where the whole frame is requested
pub whole_is : (request frame : Rect) (plane : Plane) (world : Picture) → request ≡ frame → world.part ≡ area_in world.extent request → plane.extent ≡ frame
    → ((x y : ℤ) → ¬ Has frame x y → plane.at x y ≡ clear) → StandsFor request plane world → plane_of world ≡ plane
whole_is request frame plane world all part same beyond is =
    ap (λ (r : Rect). let p : Plane = record { extent = r; at = at world } in p) is.extent
    ∙ ap (λ (f : ℤ → ℤ → _). let p : Plane = record { extent = plane.extent; at = f } in p) (λ i x y. by x y (has frame x y) refl i)
  where
    none : (x y : ℤ) → has frame x y ≡ false → ¬ Has frame x y
    none x y e h = differ (sym (has-true frame x y h) ∙ e)

    off : (x y : ℤ) (b : Bool) → has (area_in world.extent request) x y ≡ b → has frame x y ≡ false → has world.part x y ≡ false
    off x y true e f = absurd (none x y f (subst (λ (r : Rect). Has r x y) (is.extent ∙ same) (area_inside world.extent request x y (Has-from_true (area_in world.extent request) x y e))))
    off x y false e f = ap (λ (r : Rect). has r x y) part ∙ e

    by : (x y : ℤ) (b : Bool) → has frame x y ≡ b → at world x y ≡ plane.at x y
    by x y true e = is.agrees x y (subst (λ (r : Rect). Has r x y) (sym all) (Has-from_true frame x y e))
    by x y false e = outside world x y (off x y (has (area_in world.extent request) x y) refl e) ∙ sym (beyond x y (none x y e))

-- a part of a picture of which all is drawn
pub part_ok : {E : Type 0} (made : Result Picture E) (world : Picture) (request area : Rect) → world.part ≡ world.extent → area ≡ area_in world.part request
    → IfOk made (λ q. q.extent ≡ world.extent) → IfOk made (λ q. q.part ≡ area) → IfOk made (AgreesOn area world) → IfOk made (StandsFor request (plane_of world))
part_ok (Err e) world request area whole is extent part agrees = tt
part_ok (Ok q) world request area whole is extent part agrees =
    let here : area ≡ area_in world.extent request = is ∙ ap (λ (r : Rect). area_in r request) whole in
    stands_in request world.extent (plane_of world) q extent (part ∙ here) refl
    (λ x y none. beyond x y none (has world.part x y) refl)
    (λ x y inside. agrees x y (subst (λ (r : Rect). Has r x y) (sym here) inside))
  where
    beyond : (x y : ℤ) → ¬ Has world.extent x y → (b : Bool) → has world.part x y ≡ b → at world x y ≡ clear
    beyond x y none true e = absurd (none (subst (λ (r : Rect). Has r x y) whole (Has-from_true world.part x y e)))
    beyond x y none false e = outside world x y e

-- a picture of all of the extent, into which another one was copied
pub copied_whole : (world whole : Picture) → IsWithin world.part world.extent → whole.part ≡ world.extent → AgreesOn whole.part world whole → (x y : ℤ) → at whole x y ≡ at world x y
copied_whole world whole inside all copied x y = by (has whole.part x y) refl
  where
    off : (b : Bool) → has world.part x y ≡ b → has whole.part x y ≡ false → at world x y ≡ clear
    off true e beyond = absurd (differ (sym (has-true whole.part x y (subst (λ (r : Rect). Has r x y) (sym all) (inside x y (Has-from_true world.part x y e)))) ∙ beyond))
    off false e beyond = outside world x y e

    by : (b : Bool) → has whole.part x y ≡ b → at whole x y ≡ at world x y
    by true e = copied x y (Has-from_true whole.part x y e)
    by false e = outside whole x y e ∙ sym (off (has world.part x y) refl e)

-- a picture that stands for a plane everywhere, where the plane has pixels, is the plane
pub everywhere_is : (request : Rect) (plane : Plane) (world whole : Picture) → StandsFor request plane world → IsWithin plane.extent request → ((x y : ℤ) → ¬ Has plane.extent x y → plane.at x y ≡ clear)
    → IsWithin world.part world.extent → whole.extent ≡ world.extent → ((x y : ℤ) → at whole x y ≡ at world x y) → plane_of whole ≡ plane
everywhere_is request plane world whole stands all beyond inside same points =
    ap (λ (r : Rect). let p : Plane = record { extent = r; at = at whole } in p) (same ∙ stands.extent)
    ∙ ap (λ (f : ℤ → ℤ → _). let p : Plane = record { extent = plane.extent; at = f } in p) (λ i x y. by x y (has plane.extent x y) refl i)
  where
    none : (x y : ℤ) → has plane.extent x y ≡ false → ¬ Has plane.extent x y
    none x y e h = differ (sym (has-true plane.extent x y h) ∙ e)

    off : (x y : ℤ) (b : Bool) → has world.part x y ≡ b → has plane.extent x y ≡ false → at world x y ≡ clear
    off x y true e f = absurd (none x y f (subst (λ (r : Rect). Has r x y) stands.extent (inside x y (Has-from_true world.part x y e))))
    off x y false e f = outside world x y e

    by : (x y : ℤ) (b : Bool) → has plane.extent x y ≡ b → at whole x y ≡ plane.at x y
    by x y true e = points x y ∙ stands.agrees x y (all x y (Has-from_true plane.extent x y e))
    by x y false e = points x y ∙ off x y (has world.part x y) refl e ∙ sym (beyond x y (none x y e))

pub whole_ok : {E : Type 0} (request : Rect) (plane : Plane) (world : Picture) (made : Result Picture E) → StandsFor request plane world → IsWithin plane.extent request → ((x y : ℤ) → ¬ Has plane.extent x y → plane.at x y ≡ clear)
    → IsWithin world.part world.extent → IfOk made (λ whole. whole.extent ≡ world.extent) → IfOk made (λ whole. (x y : ℤ) → at whole x y ≡ at world x y) → IfOk made (λ whole. plane_of whole ≡ plane)
whole_ok request plane world (Ok whole) stands all beyond inside same points = everywhere_is request plane world whole stands all beyond inside same points
whole_ok request plane world (Err e) stands all beyond inside same points = tt

-- ---- what an area shows of a picture that is put somewhere

near_fits : (z : ℤ) → neg_ℤ (pos 32767) ≤ℤ z → z ≤ℤ pos 32768 → FitsSigned w32 z
near_fits (pos n) low high = record { sfits = omega (arith, ints, high) }
near_fits (negsuc n) low high = record { sfits = omega (arith, ints, low) }

pub back_fits : (z : ℤ) → IsPosition z → FitsSigned w32 (pos 0 -ℤ z)
back_fits z near = near_fits (pos 0 -ℤ z) (omega (arith, ints, near.1)) (omega (arith, ints, near.0))

pub request_near : (area : Rect) (x y : ℤ) → IsArea area → IsPosition x → IsPosition y → HasSides (shift_of area (pos 0 -ℤ x) (pos 0 -ℤ y))
request_near area x y is across down = record {
  left_near = (omega (arith, ints, is.left_in, across), omega (arith, ints, is.left_in, across));
  top_near = (omega (arith, ints, is.top_in, down), omega (arith, ints, is.top_in, down));
  right_near = (omega (arith, ints, is.right_in, across), omega (arith, ints, is.right_in, across));
  bottom_near = (omega (arith, ints, is.bottom_in, down), omega (arith, ints, is.bottom_in, down));
}

pub request_has : (area : Rect) (x y u v : ℤ) → Has area u v → Has (shift_of area (pos 0 -ℤ x) (pos 0 -ℤ y)) (u -ℤ x) (v -ℤ y)
request_has area x y u v h = (omega (arith, ints, h.0), omega (arith, ints, h.1), omega (arith, ints, h.2), omega (arith, ints, h.3))

pub plane_by : {E : Type 0} (made : Result Picture E) (a b : Plane) → a ≡ b → IfOk made (λ w. plane_of w ≡ a) → IfOk made (λ w. plane_of w ≡ b)
plane_by (Ok w) a b e is = is ∙ e
plane_by (Err why) a b e is = tt

-- all of a frame
pub whole_area : (w h : ℕ) → 1 ≤ w → 1 ≤ h → area_in (frame_rect w h) (frame_rect w h) ≡ frame_rect w h
whole_area zero h some high = absurd (omega (arith, some))
whole_area (suc w) zero some high = absurd (omega (arith, high))
whole_area (suc w) (suc h) some high =
    ap trimmed
    (ap (λ (z : ℤ). let r : Rect = record { left = pos 0; top = pos 0; right = z; bottom = int_min (pos (suc h)) (pos (suc h)) } in r) (min_same (suc w))
    ∙ ap (λ (z : ℤ). let r : Rect = record { left = pos 0; top = pos 0; right = pos (suc w); bottom = z } in r) (min_same (suc h)))
    ∙ by (is_empty (frame_rect (suc w) (suc h))) refl
  where
    by : (b : Bool) → is_empty (frame_rect (suc w) (suc h)) ≡ b → (if b then origin else frame_rect (suc w) (suc h)) ≡ frame_rect (suc w) (suc h)
    by true e = absurd (no_point_from_true (frame_rect (suc w) (suc h)) e (pos 0) (pos 0) (omega (arith, ints), omega (arith, ints), omega (arith, ints), omega (arith, ints)))
    by false e = refl

    min_same : (n : ℕ) → int_min (pos n) (pos n) ≡ pos n
    min_same n = omega (arith, ints, clamps)
