-- What the stack of layers means to the eye: laws over its definition.
use Rattle.std.specs.Prelude.{◌≡◌, ℕ, ℤ, ◌≤◌, List, [], ◌∷◌, false, IfSome}
use Rattle.std.specs.List.{AllByRecursion}
use Rattle.argb_pixel.specs.Depth.{IsDepth}
use Rattle.argb_pixel.specs.Pixel.{Argb, IsPremultiplied, clear}
use Rattle.transfer_mode.specs.declared.mode.Mode.TheVariants.{Normal}
use Rattle.transfer_mode.specs.Laws.{is_stencil}
use Rattle.track_matte.specs.declared.matte.Matte.TheVariants as matte
use Rattle.comp_stack.specs.Stack.{PlacedPlane, PlacedLayer, pixel_at, source_at, stack_over, stack_at}

-- each pixel of a plane is premultiplied, and its opacity is at most the whole
pub record IsPremultipliedPlane (most : ℕ) (placed : PlacedPlane) : Type 0 where
  pub pixels : (x y : ℤ) → IsPremultiplied most (placed.plane.at x y)
  pub opacity : placed.opacity ≤ 10000

-- so are a layer and what its matte is taken from
pub record IsPremultipliedLayer (most : ℕ) (placed : PlacedLayer) : Type 0 where
  pub layer : IsPremultipliedPlane most placed.layer
  pub over : IfSome placed.over (IsPremultipliedPlane most)

-- where a Normal layer brings an opaque pixel, it hides what is below it
abbrev pub OpaqueHides : Type 0
OpaqueHides = (most : ℕ) (layer : PlacedLayer) (lower : List PlacedLayer) (x y : ℤ) (below : Argb) → IsDepth most
    → AllByRecursion (IsPremultipliedLayer most) lower → IsPremultiplied most below → layer.mode ≡ Normal → (source_at most layer x y).a ≡ most
    → stack_over most (layer ∷ lower) x y below ≡ source_at most layer x y

-- where a layer brings nothing, it leaves what is below it, in each mode but the two stencils
abbrev pub TransparentLeaves : Type 0
TransparentLeaves = (most : ℕ) (layer : PlacedLayer) (lower : List PlacedLayer) (x y : ℤ) (below : Argb) → IsDepth most
    → is_stencil layer.mode ≡ false → source_at most layer x y ≡ clear
    → stack_over most (layer ∷ lower) x y below ≡ stack_over most lower x y below

-- what a stack shows over a premultiplied ground is premultiplied
abbrev pub StackIsPremultiplied : Type 0
StackIsPremultiplied = (most : ℕ) (layers : List PlacedLayer) (x y : ℤ) (below : Argb) → IsDepth most
    → AllByRecursion (IsPremultipliedLayer most) layers → IsPremultiplied most below → IsPremultiplied most (stack_over most layers x y below)

-- one Normal layer with no matte, at full opacity, is itself
abbrev pub OneLayerIsItself : Type 0
OneLayerIsItself = (most : ℕ) (layer : PlacedLayer) (x y : ℤ) → IsDepth most → IsPremultipliedLayer most layer
    → layer.mode ≡ Normal → layer.matte ≡ matte.None → layer.layer.opacity ≡ 10000
    → stack_at most (layer ∷ []) x y ≡ pixel_at layer.layer x y
