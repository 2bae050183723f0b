-- What pre-render answers.
use Rattle.std.specs.Prelude.{◌≡◌, ◌↔◌, ℕ, ℤ, List, length, slice_get, Some, IsTrue, false}
use Rattle.std.specs.List.{All}
use Rattle.geom_rect.specs.declared.rect.Rect.{Rect}
use Rattle.geom_rect.specs.Rect.{Has, IsWithin, meet_of}
use Rattle.effect_api.specs.declared.moment.Want.{Want}
use Rattle.effect_api.specs.declared.pre_render.Checkout.{Checkout}
use Rattle.effect_api.specs.declared.pre_render.PreRender.{PreRender}
use Rattle.effect_api.specs.Planes.{HasSides, extent_at}

-- there is an extent for each want, and none is far away
pub record AreExtents (wants : List Want) (extents : List Rect) : Type 0 where
  pub one_each : length extents ≡ length wants
  pub near : All HasSides extents

-- the result lies in the bounds, has all of them that is requested, and says whether it has more
pub record IsResult (bounds request : Rect) (pre : PreRender) : Type 0 where
  pub most : pre.max_result_rect ≡ bounds
  pub inside : IsWithin pre.result_rect bounds
  pub whole : (x y : ℤ) → Has request x y → Has bounds x y → Has pre.result_rect x y
  pub more : IsTrue pre.extra ↔ ((x : ℤ) × (y : ℤ) × Has pre.result_rect x y × ¬ Has request x y)

-- a checkout of the want with this number, whose request has each needed point of the want's extent
pub record IsCheckout (want : Want) (number : ℕ) (extent need : Rect) (checkout : Checkout) : Type 0 where
  pub id_is : checkout.id ≡ number
  pub want_is : checkout.want ≡ want
  pub enough : (x y : ℤ) → Has need x y → Has extent x y → Has checkout.request x y

-- one for each want, by what drawing the result looks at
pub record AreCheckouts (wants : List Want) (extents : List Rect) (need : ℕ → Rect) (checkouts : List Checkout) : Type 0 where
  pub one_each : length checkouts ≡ length wants
  pub each : (i : ℕ) (want : Want) (checkout : Checkout) → slice_get wants i ≡ Some want → slice_get checkouts i ≡ Some checkout
      → IsCheckout want i (extent_at extents i) (need i) checkout

-- what most effects answer: the request met with the bounds, and no more
pub record IsMet (bounds request : Rect) (pre : PreRender) : Type 0 where
  pub result_is : pre.result_rect ≡ meet_of request bounds
  pub points : (x y : ℤ) → (Has pre.result_rect x y ↔ (Has request x y × Has bounds x y))
  pub no_more : pre.extra ≡ false

-- what is checked out has the needed points of its want's extent, and no others
abbrev pub AreExact : List Rect → (ℕ → Rect) → List Checkout → Type 0
AreExact extents need checkouts =
    (i : ℕ) (checkout : Checkout) → slice_get checkouts i ≡ Some checkout
    → (x y : ℤ) → (Has checkout.request x y ↔ (Has (need i) x y × Has (extent_at extents i) x y))
