-- A source over a destination, in each mode. Both are premultiplied.
use Rattle.std.specs.Prelude.{ℕ, ◌+◌, ◌-◌, ◌*◌}
use Rattle.argb_pixel.specs.Pixel.{Argb, rounded, mul_of, luma_of}
use Rattle.transfer_mode.specs.declared.mode.Mode.{Mode}
use Rattle.transfer_mode.specs.declared.mode.Mode.TheVariants.{Normal, Multiply, Screen, Darken, Lighten, Difference, Exclusion, Add, Subtract, LinearBurn, HardLight, Overlay, LinearLight, PinLight, HardMix, ColorDodge, ColorBurn, StencilAlpha, SilhouetteAlpha, StencilLuma, SilhouetteLuma}
use Rattle.transfer_mode.specs.Both as both

pub data Rule : Type 0 where
  -- each colour is mixed: what the mode makes of both where both cover
  Mixes : (ℕ → ℕ → ℕ → ℕ → ℕ) → Rule
  -- the destination alone is kept: the part of it, of the greatest value and the source
  Keeps : (ℕ → Argb → ℕ) → Rule

abbrev pub rule_of : Mode → Rule
rule_of Normal = Mixes both.normal
rule_of Multiply = Mixes both.multiply
rule_of Screen = Mixes both.screen
rule_of Darken = Mixes both.darken
rule_of Lighten = Mixes both.lighten
rule_of Difference = Mixes both.difference
rule_of Exclusion = Mixes both.exclusion
rule_of Add = Mixes both.add
rule_of Subtract = Mixes both.subtract
rule_of LinearBurn = Mixes both.linear_burn
rule_of HardLight = Mixes both.hard_light
rule_of Overlay = Mixes both.overlay
rule_of LinearLight = Mixes both.linear_light
rule_of PinLight = Mixes both.pin_light
rule_of HardMix = Mixes both.hard_mix
rule_of ColorDodge = Mixes both.color_dodge
rule_of ColorBurn = Mixes both.color_burn
rule_of StencilAlpha = Keeps (λ most s. s.a)
rule_of SilhouetteAlpha = Keeps (λ most s. most - s.a)
rule_of StencilLuma = Keeps (λ most s. luma_of s)
rule_of SilhouetteLuma = Keeps (λ most s. most - luma_of s)

-- One channel: what each keeps where the other does not cover, and what the mode makes of both where both do.
abbrev pub blended : (most sa da s d both : ℕ) → ℕ
blended most sa da s d both = rounded (s * (most - da) + d * (most - sa) + both) most

-- the four channels mixed; of the alphas both where both cover
abbrev pub mixed : ℕ → (ℕ → ℕ → ℕ → ℕ → ℕ) → Argb → Argb → Argb
mixed most both s d = record {
  a = blended most s.a d.a s.a d.a (s.a * d.a);
  r = blended most s.a d.a s.r d.r (both s.a d.a s.r d.r);
  g = blended most s.a d.a s.g d.g (both s.a d.a s.g d.g);
  b = blended most s.a d.a s.b d.b (both s.a d.a s.b d.b);
}

abbrev pub ruled : ℕ → Rule → Argb → Argb → Argb
ruled most (Mixes both) s d = mixed most both s d
ruled most (Keeps part) s d = mul_of most d (part most s)

-- the source over the destination
abbrev pub blend_of : ℕ → Mode → Argb → Argb → Argb
blend_of most mode s d = ruled most (rule_of mode) s d
