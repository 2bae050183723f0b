-- What mattes have in common, over the definitions.
use Rattle.std.specs.Prelude.{◌≡◌, ℕ, ◌≤◌}
use Rattle.argb_pixel.specs.Depth.{IsDepth}
use Rattle.argb_pixel.specs.Pixel.{Argb, IsPremultiplied, clear}
use Rattle.track_matte.specs.declared.matte.Matte.{Matte}
use Rattle.track_matte.specs.declared.matte.Matte.TheVariants.{None, Alpha, AlphaInverted, Luma, LumaInverted}
use Rattle.track_matte.specs.Mattes.{value_of, matted}

-- without a matte the layer is as it was
abbrev pub NoMatteLeaves : Type 0
NoMatteLeaves = (most : ℕ) (q p : Argb) → IsDepth most → matted most None q p ≡ p

-- under an inverted matte a transparent pixel leaves the layer
abbrev pub TransparentInvertedLeaves : Type 0
TransparentInvertedLeaves = (most : ℕ) (p : Argb) → IsDepth most
    → (matted most AlphaInverted clear p ≡ p) × (matted most LumaInverted clear p ≡ p)

-- and under one that is not inverted it hides the layer
abbrev pub TransparentHides : Type 0
TransparentHides = (most : ℕ) (p : Argb) → IsDepth most → (matted most Alpha clear p ≡ clear) × (matted most Luma clear p ≡ clear)

-- the value of a premultiplied matte pixel is at most the greatest
abbrev pub ValueIsWithin : Type 0
ValueIsWithin = (most : ℕ) (kind : Matte) (q : Argb) → IsDepth most → IsPremultiplied most q → value_of most kind q ≤ most

abbrev pub argb : ℕ → ℕ → ℕ → ℕ → Argb
argb a r g b = record { a = a; r = r; g = g; b = b }

-- examples worked by hand
pub record WorkedMattes : Type 0 where
  pub transparent : matted 255 LumaInverted clear (argb 255 200 100 0) ≡ argb 255 200 100 0
  pub grey : matted 255 LumaInverted (argb 255 128 128 128) (argb 255 200 100 0) ≡ argb 127 100 50 0
  pub white : matted 255 LumaInverted (argb 255 255 255 255) (argb 255 200 100 0) ≡ clear
