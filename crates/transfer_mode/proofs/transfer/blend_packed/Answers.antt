use Rattle.std.proofs.Common.{ap, sym, ◌∙◌}
use lib.Lanes.{zip2}
use Rattle.argb_pixel.specs.Packed.{pixels_of}
use Rattle.transfer_mode.specs.Transfer.{blend_of}
use Rattle.transfer_mode.specs.declared.mode.Mode.TheVariants as mode
use Rattle.transfer_mode.proofs.Rules.{blend_premultiplied}
use Rattle.transfer_mode.proofs.transfer.blend_packed.Goals as goal

pub combine_packed-requires-clause-kept : goal.combine_packed-requires-clause-kept
combine_packed-requires-clause-kept g c p q h k = blend_premultiplied g.row.MAX mode.Normal p q c.requires.depth h k

pub returns-in-Normal-clause-value : goal.returns-in-Normal-clause-value
returns-in-Normal-clause-value g c = c.combine_packed.ensures.value ∙ ap (λ m. zip2 (blend_of g.row.MAX m) (pixels_of g.row.MAX c.args.s.now) (pixels_of g.row.MAX c.args.d.now)) (sym c.in-Normal.is)

pub combine_packed-requires-in-Multiply-clause-kept : goal.combine_packed-requires-in-Multiply-clause-kept
combine_packed-requires-in-Multiply-clause-kept g c p q h k = blend_premultiplied g.row.MAX mode.Multiply p q c.requires.depth h k

pub returns-in-Multiply-clause-value : goal.returns-in-Multiply-clause-value
returns-in-Multiply-clause-value g c = c.combine_packed-in-Multiply.ensures.value ∙ ap (λ m. zip2 (blend_of g.row.MAX m) (pixels_of g.row.MAX c.args.s.now) (pixels_of g.row.MAX c.args.d.now)) (sym c.in-Multiply.is)

pub combine_packed-requires-in-Screen-clause-kept : goal.combine_packed-requires-in-Screen-clause-kept
combine_packed-requires-in-Screen-clause-kept g c p q h k = blend_premultiplied g.row.MAX mode.Screen p q c.requires.depth h k

pub returns-in-Screen-clause-value : goal.returns-in-Screen-clause-value
returns-in-Screen-clause-value g c = c.combine_packed-in-Screen.ensures.value ∙ ap (λ m. zip2 (blend_of g.row.MAX m) (pixels_of g.row.MAX c.args.s.now) (pixels_of g.row.MAX c.args.d.now)) (sym c.in-Screen.is)

pub combine_packed-requires-in-Darken-clause-kept : goal.combine_packed-requires-in-Darken-clause-kept
combine_packed-requires-in-Darken-clause-kept g c p q h k = blend_premultiplied g.row.MAX mode.Darken p q c.requires.depth h k

pub returns-in-Darken-clause-value : goal.returns-in-Darken-clause-value
returns-in-Darken-clause-value g c = c.combine_packed-in-Darken.ensures.value ∙ ap (λ m. zip2 (blend_of g.row.MAX m) (pixels_of g.row.MAX c.args.s.now) (pixels_of g.row.MAX c.args.d.now)) (sym c.in-Darken.is)

pub combine_packed-requires-in-Lighten-clause-kept : goal.combine_packed-requires-in-Lighten-clause-kept
combine_packed-requires-in-Lighten-clause-kept g c p q h k = blend_premultiplied g.row.MAX mode.Lighten p q c.requires.depth h k

pub returns-in-Lighten-clause-value : goal.returns-in-Lighten-clause-value
returns-in-Lighten-clause-value g c = c.combine_packed-in-Lighten.ensures.value ∙ ap (λ m. zip2 (blend_of g.row.MAX m) (pixels_of g.row.MAX c.args.s.now) (pixels_of g.row.MAX c.args.d.now)) (sym c.in-Lighten.is)

pub combine_packed-requires-in-Difference-clause-kept : goal.combine_packed-requires-in-Difference-clause-kept
combine_packed-requires-in-Difference-clause-kept g c p q h k = blend_premultiplied g.row.MAX mode.Difference p q c.requires.depth h k

pub returns-in-Difference-clause-value : goal.returns-in-Difference-clause-value
returns-in-Difference-clause-value g c = c.combine_packed-in-Difference.ensures.value ∙ ap (λ m. zip2 (blend_of g.row.MAX m) (pixels_of g.row.MAX c.args.s.now) (pixels_of g.row.MAX c.args.d.now)) (sym c.in-Difference.is)

pub combine_packed-requires-in-Exclusion-clause-kept : goal.combine_packed-requires-in-Exclusion-clause-kept
combine_packed-requires-in-Exclusion-clause-kept g c p q h k = blend_premultiplied g.row.MAX mode.Exclusion p q c.requires.depth h k

pub returns-in-Exclusion-clause-value : goal.returns-in-Exclusion-clause-value
returns-in-Exclusion-clause-value g c = c.combine_packed-in-Exclusion.ensures.value ∙ ap (λ m. zip2 (blend_of g.row.MAX m) (pixels_of g.row.MAX c.args.s.now) (pixels_of g.row.MAX c.args.d.now)) (sym c.in-Exclusion.is)

pub combine_packed-requires-in-Add-clause-kept : goal.combine_packed-requires-in-Add-clause-kept
combine_packed-requires-in-Add-clause-kept g c p q h k = blend_premultiplied g.row.MAX mode.Add p q c.requires.depth h k

pub returns-in-Add-clause-value : goal.returns-in-Add-clause-value
returns-in-Add-clause-value g c = c.combine_packed-in-Add.ensures.value ∙ ap (λ m. zip2 (blend_of g.row.MAX m) (pixels_of g.row.MAX c.args.s.now) (pixels_of g.row.MAX c.args.d.now)) (sym c.in-Add.is)

pub combine_packed-requires-in-Subtract-clause-kept : goal.combine_packed-requires-in-Subtract-clause-kept
combine_packed-requires-in-Subtract-clause-kept g c p q h k = blend_premultiplied g.row.MAX mode.Subtract p q c.requires.depth h k

pub returns-in-Subtract-clause-value : goal.returns-in-Subtract-clause-value
returns-in-Subtract-clause-value g c = c.combine_packed-in-Subtract.ensures.value ∙ ap (λ m. zip2 (blend_of g.row.MAX m) (pixels_of g.row.MAX c.args.s.now) (pixels_of g.row.MAX c.args.d.now)) (sym c.in-Subtract.is)

pub combine_packed-requires-in-LinearBurn-clause-kept : goal.combine_packed-requires-in-LinearBurn-clause-kept
combine_packed-requires-in-LinearBurn-clause-kept g c p q h k = blend_premultiplied g.row.MAX mode.LinearBurn p q c.requires.depth h k

pub returns-in-LinearBurn-clause-value : goal.returns-in-LinearBurn-clause-value
returns-in-LinearBurn-clause-value g c = c.combine_packed-in-LinearBurn.ensures.value ∙ ap (λ m. zip2 (blend_of g.row.MAX m) (pixels_of g.row.MAX c.args.s.now) (pixels_of g.row.MAX c.args.d.now)) (sym c.in-LinearBurn.is)

pub combine_packed-requires-in-HardLight-clause-kept : goal.combine_packed-requires-in-HardLight-clause-kept
combine_packed-requires-in-HardLight-clause-kept g c p q h k = blend_premultiplied g.row.MAX mode.HardLight p q c.requires.depth h k

pub returns-in-HardLight-clause-value : goal.returns-in-HardLight-clause-value
returns-in-HardLight-clause-value g c = c.combine_packed-in-HardLight.ensures.value ∙ ap (λ m. zip2 (blend_of g.row.MAX m) (pixels_of g.row.MAX c.args.s.now) (pixels_of g.row.MAX c.args.d.now)) (sym c.in-HardLight.is)

pub combine_packed-requires-in-Overlay-clause-kept : goal.combine_packed-requires-in-Overlay-clause-kept
combine_packed-requires-in-Overlay-clause-kept g c p q h k = blend_premultiplied g.row.MAX mode.Overlay p q c.requires.depth h k

pub returns-in-Overlay-clause-value : goal.returns-in-Overlay-clause-value
returns-in-Overlay-clause-value g c = c.combine_packed-in-Overlay.ensures.value ∙ ap (λ m. zip2 (blend_of g.row.MAX m) (pixels_of g.row.MAX c.args.s.now) (pixels_of g.row.MAX c.args.d.now)) (sym c.in-Overlay.is)

pub combine_packed-requires-in-LinearLight-clause-kept : goal.combine_packed-requires-in-LinearLight-clause-kept
combine_packed-requires-in-LinearLight-clause-kept g c p q h k = blend_premultiplied g.row.MAX mode.LinearLight p q c.requires.depth h k

pub returns-in-LinearLight-clause-value : goal.returns-in-LinearLight-clause-value
returns-in-LinearLight-clause-value g c = c.combine_packed-in-LinearLight.ensures.value ∙ ap (λ m. zip2 (blend_of g.row.MAX m) (pixels_of g.row.MAX c.args.s.now) (pixels_of g.row.MAX c.args.d.now)) (sym c.in-LinearLight.is)

pub combine_packed-requires-in-PinLight-clause-kept : goal.combine_packed-requires-in-PinLight-clause-kept
combine_packed-requires-in-PinLight-clause-kept g c p q h k = blend_premultiplied g.row.MAX mode.PinLight p q c.requires.depth h k

pub returns-in-PinLight-clause-value : goal.returns-in-PinLight-clause-value
returns-in-PinLight-clause-value g c = c.combine_packed-in-PinLight.ensures.value ∙ ap (λ m. zip2 (blend_of g.row.MAX m) (pixels_of g.row.MAX c.args.s.now) (pixels_of g.row.MAX c.args.d.now)) (sym c.in-PinLight.is)

pub combine_packed-requires-in-HardMix-clause-kept : goal.combine_packed-requires-in-HardMix-clause-kept
combine_packed-requires-in-HardMix-clause-kept g c p q h k = blend_premultiplied g.row.MAX mode.HardMix p q c.requires.depth h k

pub returns-in-HardMix-clause-value : goal.returns-in-HardMix-clause-value
returns-in-HardMix-clause-value g c = c.combine_packed-in-HardMix.ensures.value ∙ ap (λ m. zip2 (blend_of g.row.MAX m) (pixels_of g.row.MAX c.args.s.now) (pixels_of g.row.MAX c.args.d.now)) (sym c.in-HardMix.is)

pub combine_bytes-requires-clause-kept : goal.combine_bytes-requires-clause-kept
combine_bytes-requires-clause-kept g c p q h k = blend_premultiplied g.row.MAX mode.ColorDodge p q c.requires.depth h k

pub returns-in-ColorDodge-clause-value : goal.returns-in-ColorDodge-clause-value
returns-in-ColorDodge-clause-value g c = c.combine_bytes.ensures.value ∙ ap (λ m. zip2 (blend_of g.row.MAX m) (pixels_of g.row.MAX c.args.s.now) (pixels_of g.row.MAX c.args.d.now)) (sym c.in-ColorDodge.is)

pub combine_bytes-requires-in-ColorBurn-clause-kept : goal.combine_bytes-requires-in-ColorBurn-clause-kept
combine_bytes-requires-in-ColorBurn-clause-kept g c p q h k = blend_premultiplied g.row.MAX mode.ColorBurn p q c.requires.depth h k

pub returns-in-ColorBurn-clause-value : goal.returns-in-ColorBurn-clause-value
returns-in-ColorBurn-clause-value g c = c.combine_bytes-in-ColorBurn.ensures.value ∙ ap (λ m. zip2 (blend_of g.row.MAX m) (pixels_of g.row.MAX c.args.s.now) (pixels_of g.row.MAX c.args.d.now)) (sym c.in-ColorBurn.is)

pub returns-in-StencilAlpha-clause-value : goal.returns-in-StencilAlpha-clause-value
returns-in-StencilAlpha-clause-value g c = c.combine_packed-in-StencilAlpha.ensures.value ∙ ap (λ m. zip2 (blend_of g.row.MAX m) (pixels_of g.row.MAX c.args.s.now) (pixels_of g.row.MAX c.args.d.now)) (sym c.in-StencilAlpha.is)

pub returns-in-SilhouetteAlpha-clause-value : goal.returns-in-SilhouetteAlpha-clause-value
returns-in-SilhouetteAlpha-clause-value g c = c.combine_packed-in-SilhouetteAlpha.ensures.value ∙ ap (λ m. zip2 (blend_of g.row.MAX m) (pixels_of g.row.MAX c.args.s.now) (pixels_of g.row.MAX c.args.d.now)) (sym c.in-SilhouetteAlpha.is)

pub returns-in-StencilLuma-clause-value : goal.returns-in-StencilLuma-clause-value
returns-in-StencilLuma-clause-value g c = c.combine_packed-in-StencilLuma.ensures.value ∙ ap (λ m. zip2 (blend_of g.row.MAX m) (pixels_of g.row.MAX c.args.s.now) (pixels_of g.row.MAX c.args.d.now)) (sym c.in-StencilLuma.is)

pub returns-in-SilhouetteLuma-clause-value : goal.returns-in-SilhouetteLuma-clause-value
returns-in-SilhouetteLuma-clause-value g c = c.combine_packed-in-SilhouetteLuma.ensures.value ∙ ap (λ m. zip2 (blend_of g.row.MAX m) (pixels_of g.row.MAX c.args.s.now) (pixels_of g.row.MAX c.args.d.now)) (sym c.in-SilhouetteLuma.is)
