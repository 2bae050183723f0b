-- Checkouts before and after their requests are held to the extents.
use Rattle.std.specs.Prelude.{◌≡◌, ◌≢◌, ◌↔◌, ℕ, ℤ, Bool, List, slice_get, Some, IsTrue}
use Rattle.std.specs.List.{AllZip}
use Rattle.geom_rect.specs.declared.rect.Rect.{Rect}
use Rattle.geom_rect.specs.Rect.{Has}
use Rattle.effect_api.specs.declared.moment.Moment.{Moment}
use Rattle.effect_api.specs.declared.pre_render.Checkout.{Checkout}
use Rattle.effect_api.specs.Planes.{extent_at}
use Rattle.smart_plan.specs.Requests.{IsRequest}

-- the same checkout with a request of the extent, which has all of the extent that was requested
pub record IsHeld (at : Moment) (extent : Rect) (old new : Checkout) : Type 0 where
  pub same_id : new.id ≡ old.id
  pub same_want : new.want ≡ old.want
  pub request : IsRequest at extent new
  pub enough : (x y : ℤ) → Has old.request x y → Has extent x y → Has new.request x y

-- each by its number
abbrev pub AreHeld : Moment → List Rect → List Checkout → List Checkout → Type 0
AreHeld at extents olds news =
    (i : ℕ) (old new : Checkout) → slice_get olds i ≡ Some old → slice_get news i ≡ Some new → IsHeld at (extent_at extents i) old new

-- one mark for each checkout, set exactly where it is at another tick than the moment's
abbrev pub AreMarks : Moment → List Checkout → List Bool → Type 0
AreMarks at checkouts marks = AllZip (λ checkout mark. IsTrue mark ↔ (checkout.want.tick ≢ at.tick)) checkouts marks
