-- What pre-render checks out of each want.
use Rattle.std.proofs.Common.{◌≡◌, ◌↔◌, ℕ, pos, List, length, slice_get, Some, ap, sym, subst, ◌∙◌, arith}
use Rattle.std.proofs.lemmas.Option.{get_or_from_slice_get, slice_get_within}
use Rattle.std.proofs.lemmas.List.FromFn.{get_or-map-range_with_len, length-map-range_with_len}
use Rattle.geom_rect.specs.declared.rect.Rect.{Rect}
use Rattle.geom_rect.specs.Rect.{Has}
use Rattle.geom_rect.proofs.Points.{Has-meet_of}
use Rattle.effect_api.specs.declared.moment.Want.{Want}
use Rattle.effect_api.specs.declared.pre_render.Checkout.{Checkout}
use Rattle.effect_api.specs.Planes.{extent_at}
use Rattle.effect_api.specs.Render.{IsCheckout, AreCheckouts, AreExact}
use Rattle.fx_spatial.specs.Asked.{asked}
use Rattle.fx_time.specs.Asked.{want_in, asked_of_each}

module _ (wants : List Want) (extents : List Rect) (rect : Rect) where
  -- the checkout that is found with a number
  found : (i : ℕ) (checkout : Checkout) → slice_get (asked_of_each wants extents rect (length wants)) i ≡ Some checkout
      → checkout ≡ asked (want_in wants i) i rect (extent_at extents i)
  found i checkout e =
      let l = slice_get_within (asked_of_each wants extents rect (length wants)) i checkout e in
      let long = length-map-range_with_len (λ k. asked (want_in wants k) k rect (extent_at extents k)) 0 (length wants) in
      sym (get_or_from_slice_get (asked_of_each wants extents rect (length wants)) i checkout checkout e)
      ∙ get_or-map-range_with_len (λ k. asked (want_in wants k) k rect (extent_at extents k)) 0 (length wants) i i checkout (omega (arith, l, long)) (omega arith)

  pub each_asked : AreCheckouts wants extents (λ i. rect) (asked_of_each wants extents rect (length wants))
  each_asked = record { one_each = length-map-range_with_len (λ k. asked (want_in wants k) k rect (extent_at extents k)) 0 (length wants); each = each }
    where
      each : (i : ℕ) (want : Want) (checkout : Checkout) → slice_get wants i ≡ Some want → slice_get (asked_of_each wants extents rect (length wants)) i ≡ Some checkout
          → IsCheckout want i (extent_at extents i) rect checkout
      each i want checkout e f =
          let is = found i checkout f in
          let same = get_or_from_slice_get wants i want (record { input = 0; tick = record { 0 = pos 0 } }) e in
          record {
            id_is = ap (λ (k : Checkout). k.id) is;
            want_is = ap (λ (k : Checkout). k.want) is ∙ same;
            enough = λ x y n h. subst (λ (k : Checkout). Has k.request x y) (sym is) ((Has-meet_of rect (extent_at extents i) x y).1 (n, h));
          }

  pub exactly_asked : AreExact extents (λ i. rect) (asked_of_each wants extents rect (length wants))
  exactly_asked i checkout f x y =
      subst (λ (k : Checkout). Has k.request x y ↔ (Has rect x y × Has (extent_at extents i) x y)) (sym (found i checkout f)) (Has-meet_of rect (extent_at extents i) x y)
