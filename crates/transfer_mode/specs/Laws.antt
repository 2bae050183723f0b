-- What the modes have in common, over the definitions.
use Rattle.std.specs.Prelude.{◌≡◌, ℕ, ◌*◌, ◌≤◌, true, false, Bool}
use Rattle.argb_pixel.specs.Depth.{IsDepth}
use Rattle.argb_pixel.specs.Pixel.{Argb, IsPremultiplied, clear}
use Rattle.transfer_mode.specs.declared.mode.Mode.{Mode}
use Rattle.transfer_mode.specs.declared.mode.Mode.TheVariants.{Normal, Multiply, Screen, Darken, Lighten, Difference, Exclusion, Add, LinearBurn, HardLight, Overlay, HardMix, ColorDodge, ColorBurn, StencilAlpha, StencilLuma}
use Rattle.transfer_mode.specs.Transfer.{Mixes, rule_of, blend_of}

-- what a mode makes of two colours is at most the product of the alphas
abbrev pub MixIsBounded : Type 0
MixIsBounded = (mode : Mode) (both : ℕ → ℕ → ℕ → ℕ → ℕ) (sa da s d : ℕ) → rule_of mode ≡ Mixes both → s ≤ sa → d ≤ da
    → both sa da s d ≤ sa * da

-- a premultiplied source over a premultiplied destination is premultiplied
abbrev pub BlendIsPremultiplied : Type 0
BlendIsPremultiplied = (most : ℕ) (mode : Mode) (s d : Argb) → IsDepth most → IsPremultiplied most s → IsPremultiplied most d
    → IsPremultiplied most (blend_of most mode s d)

-- a transparent source is not seen in any mode but the two that keep only what lies under the source
abbrev pub is_stencil : Mode → Bool
is_stencil StencilAlpha = true
is_stencil StencilLuma = true
is_stencil mode = false

abbrev pub TransparentSourceLeaves : Type 0
TransparentSourceLeaves = (most : ℕ) (mode : Mode) (d : Argb) → IsDepth most → is_stencil mode ≡ false
    → blend_of most mode clear d ≡ d

-- and these two then leave nothing
abbrev pub TransparentStencilClears : Type 0
TransparentStencilClears = (most : ℕ) (mode : Mode) (d : Argb) → IsDepth most → is_stencil mode ≡ true
    → blend_of most mode clear d ≡ clear

-- over nothing, each mode that mixes shows the source
abbrev pub OverNothingIsSource : Type 0
OverNothingIsSource = (most : ℕ) (mode : Mode) (both : ℕ → ℕ → ℕ → ℕ → ℕ) (s : Argb) → IsDepth most → IsPremultiplied most s
    → rule_of mode ≡ Mixes both → blend_of most mode s clear ≡ s

-- an opaque source hides the destination in Normal mode
abbrev pub OpaqueNormalHides : Type 0
OpaqueNormalHides = (most : ℕ) (s d : Argb) → IsDepth most → IsPremultiplied most d → s.a ≡ most
    → blend_of most Normal s d ≡ s

-- the modes that do not tell source and destination apart
abbrev pub is_symmetric : Mode → Bool
is_symmetric Multiply = true
is_symmetric Screen = true
is_symmetric Darken = true
is_symmetric Lighten = true
is_symmetric Difference = true
is_symmetric Exclusion = true
is_symmetric Add = true
is_symmetric LinearBurn = true
is_symmetric HardMix = true
is_symmetric mode = false

abbrev pub SymmetricModesExchange : Type 0
SymmetricModesExchange = (most : ℕ) (mode : Mode) (s d : Argb) → is_symmetric mode ≡ true → blend_of most mode s d ≡ blend_of most mode d s

-- Overlay is HardLight with source and destination exchanged
abbrev pub OverlayIsHardLightExchanged : Type 0
OverlayIsHardLightExchanged = (most : ℕ) (s d : Argb) → blend_of most Overlay s d ≡ blend_of most HardLight d s

-- grey of this depth
abbrev pub opaque_grey : ℕ → ℕ → Argb
opaque_grey most c = record { a = most; r = c; g = c; b = c }

abbrev pub argb : ℕ → ℕ → ℕ → ℕ → Argb
argb a r g b = record { a = a; r = r; g = g; b = b }

-- examples worked by hand
pub record WorkedBlends : Type 0 where
  pub half_red_over_blue : blend_of 255 Normal (argb 128 128 0 0) (argb 255 0 0 255) ≡ argb 255 128 0 127
  pub product_of_greys : blend_of 255 Multiply (opaque_grey 255 128) (opaque_grey 255 128) ≡ opaque_grey 255 64
  pub white_over_black : blend_of 32768 Normal (opaque_grey 32768 32768) (opaque_grey 32768 0) ≡ opaque_grey 32768 32768
  pub white_dodges_black : blend_of 255 ColorDodge (opaque_grey 255 255) (opaque_grey 255 0) ≡ opaque_grey 255 0
  pub white_dodges_more : blend_of 255 ColorDodge (opaque_grey 255 255) (opaque_grey 255 1) ≡ opaque_grey 255 255
  pub black_burns_white : blend_of 255 ColorBurn (opaque_grey 255 0) (opaque_grey 255 255) ≡ opaque_grey 255 255
  pub black_burns_less : blend_of 255 ColorBurn (opaque_grey 255 0) (opaque_grey 255 254) ≡ opaque_grey 255 0
