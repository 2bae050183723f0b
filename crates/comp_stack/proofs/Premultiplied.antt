-- What a stack shows is premultiplied.
use Rattle.std.proofs.Common.{ℕ, ◌≤◌, ℤ, [], ◌∷◌, ap, ◌∙◌, arith}
use Rattle.std.specs.Prelude.{Option, Some, None, IfSome}
use Rattle.argb_pixel.specs.Depth.{IsDepth}
use Rattle.argb_pixel.specs.Pixel.{Argb, IsPremultiplied}
use Rattle.argb_pixel.proofs.Channels.{depth_pos, part_premultiplied, luma_within, clear_premultiplied}
use Rattle.transfer_mode.specs.declared.mode.Mode.{Mode}
use Rattle.transfer_mode.specs.Transfer.{blend_of}
use Rattle.transfer_mode.proofs.Rules.{blend_premultiplied, opaque_hides}
use Rattle.track_matte.specs.declared.matte.Matte.{Matte}
use Rattle.track_matte.specs.declared.matte.Matte.TheVariants as matte
use Rattle.track_matte.specs.Mattes.{value_of}
use Rattle.comp_stack.specs.Stack.{PlacedPlane, PlacedLayer, matte_at, source_at, stack_over}
use Rattle.comp_stack.specs.Laws.{IsPremultipliedPlane, IsPremultipliedLayer, OpaqueHides, StackIsPremultiplied}

value_within : (most : ℕ) (kind : Matte) (q : Argb) → IsPremultiplied most q → value_of most kind q ≤ most
value_within most matte.None q p = omega arith
value_within most matte.Alpha q p = p.alpha
value_within most matte.AlphaInverted q p = omega arith
value_within most matte.Luma q p = luma_within most q p
value_within most matte.LumaInverted q p = omega arith

matte_fits : (most : ℕ) (over : Option PlacedPlane) (x y : ℤ) → IfSome over (IsPremultipliedPlane most) → IsPremultiplied most (matte_at over x y)
matte_fits most None x y fits = clear_premultiplied most
matte_fits most (Some placed) x y fits = part_premultiplied most 10000 placed.opacity _ (omega arith) fits.opacity (fits.pixels _ _)

source_fits : (most : ℕ) (layer : PlacedLayer) (x y : ℤ) → IsDepth most → IsPremultipliedLayer most layer → IsPremultiplied most (source_at most layer x y)
source_fits most layer x y depth fits =
    part_premultiplied most 10000 layer.layer.opacity _ (omega arith) fits.layer.opacity
    (part_premultiplied most most (value_of most layer.matte (matte_at layer.over x y)) _ (depth_pos most depth)
    (value_within most layer.matte (matte_at layer.over x y) (matte_fits most layer.over x y fits.over)) (fits.layer.pixels _ _))

pub stack_fits : StackIsPremultiplied
stack_fits most [] x y below depth all fits = fits
stack_fits most (layer ∷ lower) x y below depth all fits =
    blend_premultiplied most layer.mode (source_at most layer x y) (stack_over most lower x y below) depth (source_fits most layer x y depth all.0) (stack_fits most lower x y below depth all.1 fits)

pub hides : OpaqueHides
hides most layer lower x y below depth all fits normal opaque =
    ap (λ (mode : Mode). blend_of most mode (source_at most layer x y) (stack_over most lower x y below)) normal
    ∙ opaque_hides most (source_at most layer x y) (stack_over most lower x y below) depth (stack_fits most lower x y below depth all fits) opaque
