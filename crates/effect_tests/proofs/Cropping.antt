-- What is drawn from a part of the input alone, where the part is what a plan requests.
use Rattle.std.proofs.Common.{◌≡◌, ℕ, ◌<◌, ℤ, Bool, true, false, List, [], ◌∷◌, length, get_or, refl, sym, subst, ap, ◌∙◌, arith}
use Rattle.std.proofs.lemmas.List.{get_or-map}
use Rattle.std.proofs.lemmas.List.Elements.{All-nil, All-cons}
use Rattle.geom_rect.specs.declared.rect.Rect.{Rect}
use Rattle.geom_rect.specs.Rect.{Has, has, IsWithin, origin}
use Rattle.geom_rect.proofs.Points.{has-true, Has-from_true}
use Rattle.argb_pixel.specs.Depth.{IsDepth}
use Rattle.argb_pixel.specs.Pixel.{Argb, IsPremultiplied}
use Rattle.argb_pixel.proofs.Channels.{clear_premultiplied}
use Rattle.argb_world.specs.Picture.{Picture, at, AgreesOn}
use Rattle.argb_world.proofs.Rows.{at_beyond}
use Rattle.comp_stack.specs.Stack.{Plane}
use Rattle.comp_stack.specs.Layers.{plane_of}
use Rattle.effect_api.specs.declared.moment.Want.{Want}
use Rattle.effect_api.specs.declared.moment.Ask.{Ask}
use Rattle.effect_api.specs.declared.pre_render.Checkout.{Checkout}
use Rattle.effect_api.specs.Planes.{IsPlane, AgreeOnNeed, plane_at}
use Rattle.effect_api.specs.Checked.{AreSums}
use Rattle.effect_api.specs.Effects.{IsInput, IsDrawing, Shows}
use Rattle.smart_plan.specs.Plan.{IsPart}
use Rattle.smart_plan.specs.Requests.{request_at}
use Rattle.smart_plan.specs.Suffices.{Suffices, request_shown, target_is_plane}

-- a part that is cut out of a picture, the rest being left transparent
pub record IsCut (input cut : Picture) (rect : Rect) : Type 0 where
  pub extent : cut.extent ≡ input.extent
  pub part : cut.part ≡ rect
  pub inside : IsWithin rect input.extent
  pub copied : AgreesOn rect input cut

cut_is_plane : (most : ℕ) (input cut : Picture) (rect : Rect) → IsPlane most (plane_of input) → IsCut input cut rect → IsPlane most (plane_of cut)
cut_is_plane most input cut rect plane is_cut =
    target_is_plane most (at input) cut
    (λ x y h. subst (λ (r : Rect). Has r x y) (sym is_cut.extent) (is_cut.inside x y (subst (λ (r : Rect). Has r x y) is_cut.part h)))
    (record { pixels = plane.pixels; outside = λ x y none. plane.outside x y (λ h. none (subst (λ (r : Rect). Has r x y) (sym is_cut.extent) h)) })
    (λ x y h. is_cut.copied x y (subst (λ (r : Rect). Has r x y) is_cut.part h))

-- one plane, and no sums
alone : (most : ℕ) (sums_of : ℕ → ℕ → Plane → List ℕ) (wants : List Want) (asks : List Ask) (picture : Picture) → IsDepth most → length wants ≡ 1 → asks ≡ []
    → IsPlane most (plane_of picture) → IsInput most sums_of wants asks (plane_of picture ∷ []) []
alone most sums_of wants asks picture depth one none plane = record {
  depth = depth;
  planes_are = All-cons (IsPlane most) (plane_of picture) [] plane (All-nil _);
  one_each = sym one;
  sums_are = subst (λ (all : List Ask). AreSums most sums_of all []) (sym none) tt;
}

pub shown_sparingly : (most : ℕ) (sums_of : ℕ → ℕ → Plane → List ℕ) (wants : List Want) (asks : List Ask) (draws : List Plane → List (List ℕ) → ℤ → ℤ → Argb)
    (bounds request : Rect) (checkouts : List Checkout) (part : Rect) (input cut target : Picture) → IsDepth most → length wants ≡ 1 → asks ≡ []
    → IsPlane most (plane_of input) → IsCut input cut (request_at checkouts 0)
    → Suffices most sums_of wants asks (input.extent ∷ []) draws (request_at checkouts) part → IsPart bounds request part
    → (IsInput most sums_of wants asks (plane_of input ∷ []) [] → IsDrawing most bounds (draws (plane_of input ∷ []) []))
    → target.part ≡ part → Shows part (draws (plane_of cut ∷ []) []) target → Shows request (draws (plane_of input ∷ []) []) target
shown_sparingly most sums_of wants asks draws bounds request checkouts part input cut target depth one none plane is_cut suffices is_part drawing part_is shown =
    request_shown most bounds request (draws (plane_of input ∷ []) []) target (subst (IsPart bounds request) (sym part_is) is_part) (drawing whole)
    (λ x y h. let inside = subst (λ (r : Rect). Has r x y) part_is h in shown x y inside ∙ sym (suffices (plane_of input ∷ []) (plane_of cut ∷ []) [] whole less refl (ap (λ (r : Rect). r ∷ []) is_cut.extent) agree x y inside))
  where
    whole : IsInput most sums_of wants asks (plane_of input ∷ []) []
    whole = alone most sums_of wants asks input depth one none plane

    less : IsInput most sums_of wants asks (plane_of cut ∷ []) []
    less = alone most sums_of wants asks cut depth one none (cut_is_plane most input cut (request_at checkouts 0) plane is_cut)

    agree : AgreeOnNeed (request_at checkouts) (plane_of input ∷ []) (plane_of cut ∷ [])
    agree i low x y h =
        subst (λ (n : ℕ). (plane_at (plane_of input ∷ []) n).at x y ≡ (plane_at (plane_of cut ∷ []) n).at x y) (sym first)
        (sym (is_cut.copied x y (subst (λ (n : ℕ). Has (request_at checkouts n) x y) first h)))
      where
        first : i ≡ 0
        first = omega (arith, low)

-- the request of a checkout that is read
pub request_read : (checkouts : List Checkout) (i : ℕ) (checkout : Checkout) → i < length checkouts → checkout ≡ get_or checkouts i checkout → request_at checkouts i ≡ checkout.request
request_read checkouts i checkout low is =
    get_or-map (λ (c : Checkout). c.request) checkouts i checkout origin low ∙ ap (λ (c : Checkout). c.request) (sym is)

-- a picture of one colour is a plane
pub one_colour_is_plane : (most : ℕ) (picture : Picture) (colour : Argb) → IsPremultiplied most colour → picture.part ≡ picture.extent
    → ((x y : ℤ) → Has picture.extent x y → at picture x y ≡ colour) → IsPlane most (plane_of picture)
one_colour_is_plane most picture colour premultiplied same shown = record {
  pixels = λ x y. pixel x y (has picture.extent x y) refl;
  outside = λ x y none. at_beyond picture.extent picture.part picture.pixels x y (λ h. none (subst (λ (r : Rect). Has r x y) same h));
}
  where
    pixel : (x y : ℤ) (b : Bool) → has picture.extent x y ≡ b → IsPremultiplied most (at picture x y)
    pixel x y true e = subst (IsPremultiplied most) (sym (shown x y (Has-from_true picture.extent x y e))) premultiplied
    pixel x y false e =
        subst (IsPremultiplied most) (sym (at_beyond picture.extent picture.part picture.pixels x y (λ h. differ (sym (has-true picture.extent x y (subst (λ (r : Rect). Has r x y) same h)) ∙ e))))
        (clear_premultiplied most)
      where
        differ : true ≡ false → ⊥
        differ d = cc
