-- What is requested of each want.
use Rattle.std.specs.Prelude.{◌≡◌, ◌≢◌, ℕ, List, map, slice_get, Some}
use Rattle.geom_rect.specs.declared.rect.Rect.{Rect}
use Rattle.geom_rect.specs.Rect.{IsWithin}
use Rattle.effect_api.specs.declared.moment.Moment.{Moment}
use Rattle.effect_api.specs.declared.pre_render.Checkout.{Checkout}
use Rattle.effect_api.specs.Planes.{HasSides, extent_at}

-- the request for the want of a number
abbrev pub request_at : List Checkout → ℕ → Rect
request_at checkouts i = extent_at (map (λ checkout. checkout.request) checkouts) i

-- a request lies in the want's extent, near the origin; it is the whole extent where the want is at another tick
pub record IsRequest (at : Moment) (extent : Rect) (checkout : Checkout) : Type 0 where
  pub inside : IsWithin checkout.request extent
  pub near : HasSides checkout.request
  pub whole : checkout.want.tick ≢ at.tick → checkout.request ≡ extent

-- so is each
abbrev pub AreRequests : Moment → List Rect → List Checkout → Type 0
AreRequests at extents checkouts =
    (i : ℕ) (checkout : Checkout) → slice_get checkouts i ≡ Some checkout → IsRequest at (extent_at extents i) checkout
