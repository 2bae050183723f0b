-- An effect set as a value: its functions, and the laws that hold of them.
use Rattle.std.specs.Prelude.{◌≡◌, ℕ, ◌≤◌, ℤ, List, length}
use Rattle.geom_rect.specs.declared.rect.Rect.{Rect}
use Rattle.argb_pixel.specs.Pixel.{Argb}
use Rattle.comp_stack.specs.Stack.{Plane}
use Rattle.project_model.specs.declared.effect.EffectSchema.{EffectSchema}
use Rattle.project_model.specs.Effects.{AreSchemas, Use, schema_of}
use Rattle.effect_api.specs.declared.moment.Moment.{Moment}
use Rattle.effect_api.specs.declared.moment.Want.{Want}
use Rattle.effect_api.specs.declared.moment.Ask.{Ask}
use Rattle.effect_api.specs.Fits.{IsGiven}
use Rattle.effect_api.specs.Planes.{extents_of}
use Rattle.effect_api.specs.Wants.{AreClassNames, AreWants, AreAsks, IsBounds}
use Rattle.effect_api.specs.Effects.{IsInput, IsDrawing, IsLocal}

-- what there is, what each effect draws from, and where
pub record EffectSet : Type 0 where
  pub schemas : List EffectSchema
  pub class_names : List (List ℕ)
  pub wants : Use → Moment → List Want
  pub asks : Use → Moment → List Ask
  pub bounds : Use → Moment → List Rect → Rect
  pub need : Use → Moment → List Rect → ℕ → Rect → Rect

-- what each effect draws at a depth, and the sums of its analyses
pub record Drawing : Type 0 where
  pub draws : Use → Moment → List Plane → List (List ℕ) → ℤ → ℤ → Argb
  pub sums_of : ℕ → ℕ → Plane → List ℕ

-- the laws of a set: what is listed is well formed, and each effect stays near what it draws from
pub record IsLawfulSet (set : EffectSet) : Type 0 where
  pub schemas_are : AreSchemas set.schemas
  pub class_names_are : AreClassNames set.class_names
  pub wants_are : (fx : Use) (at : Moment) → IsGiven set.schemas fx at
      → AreWants (schema_of set.schemas fx.kind).layers at.base.ticks (set.wants fx at)
  pub asks_are : (fx : Use) (at : Moment) → IsGiven set.schemas fx at
      → AreAsks (length set.class_names) (schema_of set.schemas fx.kind).layers at.base.ticks (set.asks fx at)
  pub bounds_are : (fx : Use) (at : Moment) (extents : List Rect) → IsGiven set.schemas fx at
      → length extents ≡ length (set.wants fx at) → IsBounds extents (set.bounds fx at extents)

-- the laws of what a set draws: pictures that are transparent outside the bounds, drawn from what is needed alone
pub record IsLawfulDrawing (most : ℕ) (set : EffectSet) (drawing : Drawing) : Type 0 where
  pub draws_are : (fx : Use) (at : Moment) (planes : List Plane) (sums : List (List ℕ)) → IsGiven set.schemas fx at
      → IsInput most drawing.sums_of (set.wants fx at) (set.asks fx at) planes sums
      → IsDrawing most (set.bounds fx at (extents_of planes)) (drawing.draws fx at planes sums)
  pub draws_locally : (fx : Use) (at : Moment) (extents : List Rect) → IsGiven set.schemas fx at
      → IsLocal most drawing.sums_of (set.wants fx at) (set.asks fx at) extents (λ rect i. set.need fx at extents i rect) (drawing.draws fx at)
  pub sums_are_few : (class ask : ℕ) (plane : Plane) → length (drawing.sums_of class ask plane) ≤ 65536
