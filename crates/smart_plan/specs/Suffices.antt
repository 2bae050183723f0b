-- What a plan is good for: worlds that show the planes where these are looked at give the same pixels.
use Rattle.std.specs.Prelude.{ℕ, List}
use Rattle.std.proofs.Common.{◌≡◌, ◌∙◌, ℤ, sym, subst, ap, Bool, true, false, if◌then◌else◌, slice_index_or, refl}
use Rattle.geom_rect.specs.declared.rect.Rect.{Rect}
use Rattle.geom_rect.specs.Rect.{Has, has, IsWithin}
use Rattle.geom_rect.proofs.Points.{has-true, Has-from_true}
use Rattle.argb_pixel.specs.Pixel.{Argb, IsPremultiplied, clear}
use Rattle.argb_pixel.proofs.Channels.{clear_premultiplied}
use Rattle.argb_world.specs.Picture.{Picture, at, place_of}
use Rattle.comp_stack.specs.Stack.{Plane}
use Rattle.comp_stack.specs.Layers.{plane_of}
use Rattle.effect_api.specs.declared.moment.Want.{Want}
use Rattle.effect_api.specs.declared.moment.Ask.{Ask}
use Rattle.effect_api.specs.Planes.{IsPlane, AgreeOnNeed, extents_of}
use Rattle.effect_api.specs.Effects.{IsInput, IsDrawing, Shows}
use Rattle.smart_plan.specs.Plan.{IsPart}

-- worlds with the planes' extents, which agree with the planes on the requests, give with the same sums the same pixels on
-- the part
abbrev pub Suffices : ℕ → (ℕ → ℕ → Plane → List ℕ) → List Want → List Ask → List Rect → (List Plane → List (List ℕ) → ℤ → ℤ → Argb) → (ℕ → Rect) → Rect → Type 0
Suffices most sums_of wants asks extents draws requests part =
    (planes worlds : List Plane) (sums : List (List ℕ))
    → IsInput most sums_of wants asks planes sums → IsInput most sums_of wants asks worlds sums
    → extents_of planes ≡ extents → extents_of worlds ≡ extents → AgreeOnNeed requests planes worlds
    → (x y : ℤ) → Has part x y → draws planes sums x y ≡ draws worlds sums x y

-- so a target that shows over the part what is drawn from such worlds shows what is drawn from the planes
abbrev pub WorldsStandForPlanes : Type 0
WorldsStandForPlanes =
    (most : ℕ) (sums_of : ℕ → ℕ → Plane → List ℕ) (wants : List Want) (asks : List Ask) (extents : List Rect)
    (draws : List Plane → List (List ℕ) → ℤ → ℤ → Argb) (requests : ℕ → Rect) (part : Rect)
    → Suffices most sums_of wants asks extents draws requests part
    → (planes worlds : List Plane) (sums : List (List ℕ)) (target : Picture)
    → IsInput most sums_of wants asks planes sums → IsInput most sums_of wants asks worlds sums
    → extents_of planes ≡ extents → extents_of worlds ≡ extents → AgreeOnNeed requests planes worlds
    → Shows part (draws worlds sums) target → Shows part (draws planes sums) target

-- a picture whose part is that of a plan, and which shows a drawing there, shows it at each point of the request
abbrev pub RequestsAreShown : Type 0
RequestsAreShown =
    (most : ℕ) (bounds request : Rect) (drawing : ℤ → ℤ → Argb) (target : Picture)
    → IsPart bounds request target.part → IsDrawing most bounds drawing
    → Shows target.part drawing target → Shows request drawing target

-- and it is a plane itself, so that it may be drawn from
abbrev pub TargetsArePlanes : Type 0
TargetsArePlanes =
    (most : ℕ) (drawing : ℤ → ℤ → Argb) (target : Picture)
    → IsWithin target.part target.extent → IsDrawing most target.extent drawing
    → Shows target.part drawing target → IsPlane most (plane_of target)

differ : true ≡ false → ⊥
differ e = cc

-- a picture is transparent outside its part
clear_beyond : (target : Picture) (x y : ℤ) → has target.part x y ≡ false → at target x y ≡ clear
clear_beyond target x y e = ap (λ (b : Bool). if b then slice_index_or target.pixels (place_of target.part x y) clear else clear) e

-- and so outside of what the part lies in
clear_outside : (target : Picture) (outer : Rect) (x y : ℤ) → IsWithin target.part outer → has outer x y ≡ false → at target x y ≡ clear
clear_outside target outer x y inside e = by (has target.part x y) refl
  where
    by : (b : Bool) → has target.part x y ≡ b → at target x y ≡ clear
    by true f = absurd (differ (sym (has-true outer x y (inside x y (Has-from_true target.part x y f))) ∙ e))
    by false f = clear_beyond target x y f

pub request_shown : RequestsAreShown
request_shown most bounds request drawing target is_part drawn shown x y asked = by (has bounds x y) refl
  where
    by : (b : Bool) → has bounds x y ≡ b → at target x y ≡ drawing x y
    by true e = shown x y (is_part.whole x y asked (Has-from_true bounds x y e))
    by false e = clear_outside target bounds x y is_part.inside e ∙ sym (drawn.outside x y (λ h. differ (sym (has-true bounds x y h) ∙ e)))

pub target_is_plane : TargetsArePlanes
target_is_plane most drawing target inside drawn shown = record {
  pixels = λ x y. pixel x y (has target.part x y) refl;
  outside = λ x y none. away x y none (has target.extent x y) refl;
}
  where
    pixel : (x y : ℤ) (b : Bool) → has target.part x y ≡ b → IsPremultiplied most (at target x y)
    pixel x y true e = subst (IsPremultiplied most) (sym (shown x y (Has-from_true target.part x y e))) (drawn.pixels x y)
    pixel x y false e = subst (IsPremultiplied most) (sym (clear_beyond target x y e)) (clear_premultiplied most)

    away : (x y : ℤ) → ¬ Has target.extent x y → (b : Bool) → has target.extent x y ≡ b → at target x y ≡ clear
    away x y none true e = absurd (none (Has-from_true target.extent x y e))
    away x y none false e = clear_outside target target.extent x y inside e
