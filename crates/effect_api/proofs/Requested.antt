-- What pre-render answers for an effect that draws each point from the input's own point.
use Rattle.std.proofs.Common.{◌≡◌, ◌↔◌, ℕ, zero, suc, ℤ, false, List, [], ◌∷◌, slice_get, Option, Some, None, Result, Ok, Err, IfOk, ap, sym, subst, ◌∙◌}
use Rattle.geom_rect.specs.declared.rect.Rect.{Rect}
use Rattle.geom_rect.specs.Rect.{Has, meet_of}
use Rattle.geom_rect.proofs.Points.{Has-meet_of}
use Rattle.effect_api.specs.declared.pre_render.Checkout.{Checkout}
use Rattle.effect_api.specs.declared.pre_render.PreRender.{PreRender}
use Rattle.effect_api.specs.Planes.{extent_at}
use Rattle.effect_api.specs.Own.{own_bounds}
use Rattle.effect_api.specs.Render.{IsResult, IsMet, AreExact}

-- what holds of an answer four times over
pub four_ok : {X E : Type 0} (r : Result X E) (A B C D Z : X → Type 0) → ((x : X) → A x → B x → C x → D x → Z x)
    → IfOk r A → IfOk r B → IfOk r C → IfOk r D → IfOk r Z
four_ok (Ok x) A B C D Z all a b c d = all x a b c d
four_ok (Err e) A B C D Z all a b c d = tt

-- the points of the request met with the extent
met_points : (pre : PreRender) (extent request : Rect) → pre.result_rect ≡ meet_of request extent
    → (x y : ℤ) → Has pre.result_rect x y ↔ (Has request x y × Has extent x y)
met_points pre extent request e x y =
    subst (λ (r : Rect). Has r x y ↔ (Has request x y × Has extent x y)) (sym e) (Has-meet_of request extent x y)

pub own_met : (pre : PreRender) (extent request : Rect) → pre.result_rect ≡ meet_of request extent → pre.extra ≡ false → IsMet extent request pre
own_met pre extent request e few = record { result_is = e; points = met_points pre extent request e; no_more = few }

pub own_result : (pre : PreRender) (extent request : Rect) → pre.max_result_rect ≡ extent → pre.result_rect ≡ meet_of request extent → pre.extra ≡ false → IsResult extent request pre
own_result pre extent request most e few = record {
  most = most;
  inside = λ x y h. ((points x y).0 h).1;
  whole = λ x y r b. (points x y).1 (r, b);
  more = (λ t. cc, λ m. absurd (m.3 ((points m.0 m.1).0 m.2).0));
}
  where
    points : (x y : ℤ) → Has pre.result_rect x y ↔ (Has request x y × Has extent x y)
    points = met_points pre extent request e

-- its one checkout
pub own_exact : (pre : PreRender) (extents : List Rect) (request : Rect) (checkout : Checkout) (checkouts : List Checkout) → pre.result_rect ≡ meet_of request (own_bounds extents)
    → checkout.request ≡ meet_of request (own_bounds extents) → checkouts ≡ checkout ∷ [] → AreExact extents (λ i. pre.result_rect) checkouts
own_exact pre extents request checkout checkouts e same is i other found x y = at i (subst (λ (cs : List Checkout). slice_get cs i ≡ Some other) is found)
  where
    points : Has checkout.request x y ↔ (Has pre.result_rect x y × Has (extent_at extents 0) x y)
    points = subst (λ (r : Rect). Has r x y ↔ (Has pre.result_rect x y × Has (extent_at extents 0) x y)) (e ∙ sym same)
        (λ h. (h, ((met_points pre (own_bounds extents) request e x y).0 h).1), λ h. h.0)

    request_of : Option Checkout → Rect
    request_of (Some c) = c.request
    request_of None = pre.result_rect

    at : (i : ℕ) → slice_get (checkout ∷ []) i ≡ Some other → Has other.request x y ↔ (Has pre.result_rect x y × Has (extent_at extents i) x y)
    at zero here = subst (λ (r : Rect). Has r x y ↔ (Has pre.result_rect x y × Has (extent_at extents 0) x y)) (ap request_of here) points
    at (suc i) here = absurd (nothing_there here)
      where
        nothing_there : slice_get (checkout ∷ []) (suc i) ≡ Some other → ⊥
        nothing_there h = cc
