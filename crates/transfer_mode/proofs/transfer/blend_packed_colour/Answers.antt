use Rattle.std.proofs.Common.{ap, sym, ◌∙◌, map, arith}
use Rattle.argb_pixel.specs.Packed.{pixels_of}
use Rattle.transfer_mode.specs.Transfer.{blend_of}
use Rattle.transfer_mode.specs.declared.mode.Mode.TheVariants as mode
use Rattle.transfer_mode.proofs.Rules.{blend_premultiplied}
use Rattle.transfer_mode.proofs.transfer.blend_packed_colour.Goals as goal

pub returns-in-Normal-clause-value : goal.returns-in-Normal-clause-value
returns-in-Normal-clause-value g c = c.over_packed_each.ensures.value ∙ ap (λ m. map (blend_of g.row.MAX m c.args.s) (pixels_of g.row.MAX c.args.d.now)) (sym c.in-Normal.is)

pub combine_packed_each-requires : goal.combine_packed_each-requires
combine_packed_each-requires g c = (omega arith, (c.requires.depth, (c.requires.destination, λ p q h k. blend_premultiplied g.row.MAX mode.Multiply p q c.requires.depth h k)))

pub returns-in-Multiply-clause-value : goal.returns-in-Multiply-clause-value
returns-in-Multiply-clause-value g c = c.combine_packed_each.ensures.value ∙ ap (λ m. map (blend_of g.row.MAX m c.args.s) (pixels_of g.row.MAX c.args.d.now)) (sym c.in-Multiply.is)

pub combine_packed_each-requires-in-Screen : goal.combine_packed_each-requires-in-Screen
combine_packed_each-requires-in-Screen g c = (omega arith, (c.requires.depth, (c.requires.destination, λ p q h k. blend_premultiplied g.row.MAX mode.Screen p q c.requires.depth h k)))

pub returns-in-Screen-clause-value : goal.returns-in-Screen-clause-value
returns-in-Screen-clause-value g c = c.combine_packed_each-in-Screen.ensures.value ∙ ap (λ m. map (blend_of g.row.MAX m c.args.s) (pixels_of g.row.MAX c.args.d.now)) (sym c.in-Screen.is)

pub combine_packed_each-requires-in-Darken : goal.combine_packed_each-requires-in-Darken
combine_packed_each-requires-in-Darken g c = (omega arith, (c.requires.depth, (c.requires.destination, λ p q h k. blend_premultiplied g.row.MAX mode.Darken p q c.requires.depth h k)))

pub returns-in-Darken-clause-value : goal.returns-in-Darken-clause-value
returns-in-Darken-clause-value g c = c.combine_packed_each-in-Darken.ensures.value ∙ ap (λ m. map (blend_of g.row.MAX m c.args.s) (pixels_of g.row.MAX c.args.d.now)) (sym c.in-Darken.is)

pub combine_packed_each-requires-in-Lighten : goal.combine_packed_each-requires-in-Lighten
combine_packed_each-requires-in-Lighten g c = (omega arith, (c.requires.depth, (c.requires.destination, λ p q h k. blend_premultiplied g.row.MAX mode.Lighten p q c.requires.depth h k)))

pub returns-in-Lighten-clause-value : goal.returns-in-Lighten-clause-value
returns-in-Lighten-clause-value g c = c.combine_packed_each-in-Lighten.ensures.value ∙ ap (λ m. map (blend_of g.row.MAX m c.args.s) (pixels_of g.row.MAX c.args.d.now)) (sym c.in-Lighten.is)

pub combine_packed_each-requires-in-Difference : goal.combine_packed_each-requires-in-Difference
combine_packed_each-requires-in-Difference g c = (omega arith, (c.requires.depth, (c.requires.destination, λ p q h k. blend_premultiplied g.row.MAX mode.Difference p q c.requires.depth h k)))

pub returns-in-Difference-clause-value : goal.returns-in-Difference-clause-value
returns-in-Difference-clause-value g c = c.combine_packed_each-in-Difference.ensures.value ∙ ap (λ m. map (blend_of g.row.MAX m c.args.s) (pixels_of g.row.MAX c.args.d.now)) (sym c.in-Difference.is)

pub combine_packed_each-requires-in-Exclusion : goal.combine_packed_each-requires-in-Exclusion
combine_packed_each-requires-in-Exclusion g c = (omega arith, (c.requires.depth, (c.requires.destination, λ p q h k. blend_premultiplied g.row.MAX mode.Exclusion p q c.requires.depth h k)))

pub returns-in-Exclusion-clause-value : goal.returns-in-Exclusion-clause-value
returns-in-Exclusion-clause-value g c = c.combine_packed_each-in-Exclusion.ensures.value ∙ ap (λ m. map (blend_of g.row.MAX m c.args.s) (pixels_of g.row.MAX c.args.d.now)) (sym c.in-Exclusion.is)

pub combine_packed_each-requires-in-Add : goal.combine_packed_each-requires-in-Add
combine_packed_each-requires-in-Add g c = (omega arith, (c.requires.depth, (c.requires.destination, λ p q h k. blend_premultiplied g.row.MAX mode.Add p q c.requires.depth h k)))

pub returns-in-Add-clause-value : goal.returns-in-Add-clause-value
returns-in-Add-clause-value g c = c.combine_packed_each-in-Add.ensures.value ∙ ap (λ m. map (blend_of g.row.MAX m c.args.s) (pixels_of g.row.MAX c.args.d.now)) (sym c.in-Add.is)

pub combine_packed_each-requires-in-Subtract : goal.combine_packed_each-requires-in-Subtract
combine_packed_each-requires-in-Subtract g c = (omega arith, (c.requires.depth, (c.requires.destination, λ p q h k. blend_premultiplied g.row.MAX mode.Subtract p q c.requires.depth h k)))

pub returns-in-Subtract-clause-value : goal.returns-in-Subtract-clause-value
returns-in-Subtract-clause-value g c = c.combine_packed_each-in-Subtract.ensures.value ∙ ap (λ m. map (blend_of g.row.MAX m c.args.s) (pixels_of g.row.MAX c.args.d.now)) (sym c.in-Subtract.is)

pub combine_packed_each-requires-in-LinearBurn : goal.combine_packed_each-requires-in-LinearBurn
combine_packed_each-requires-in-LinearBurn g c = (omega arith, (c.requires.depth, (c.requires.destination, λ p q h k. blend_premultiplied g.row.MAX mode.LinearBurn p q c.requires.depth h k)))

pub returns-in-LinearBurn-clause-value : goal.returns-in-LinearBurn-clause-value
returns-in-LinearBurn-clause-value g c = c.combine_packed_each-in-LinearBurn.ensures.value ∙ ap (λ m. map (blend_of g.row.MAX m c.args.s) (pixels_of g.row.MAX c.args.d.now)) (sym c.in-LinearBurn.is)

pub combine_packed_each-requires-in-HardLight : goal.combine_packed_each-requires-in-HardLight
combine_packed_each-requires-in-HardLight g c = (omega arith, (c.requires.depth, (c.requires.destination, λ p q h k. blend_premultiplied g.row.MAX mode.HardLight p q c.requires.depth h k)))

pub returns-in-HardLight-clause-value : goal.returns-in-HardLight-clause-value
returns-in-HardLight-clause-value g c = c.combine_packed_each-in-HardLight.ensures.value ∙ ap (λ m. map (blend_of g.row.MAX m c.args.s) (pixels_of g.row.MAX c.args.d.now)) (sym c.in-HardLight.is)

pub combine_packed_each-requires-in-Overlay : goal.combine_packed_each-requires-in-Overlay
combine_packed_each-requires-in-Overlay g c = (omega arith, (c.requires.depth, (c.requires.destination, λ p q h k. blend_premultiplied g.row.MAX mode.Overlay p q c.requires.depth h k)))

pub returns-in-Overlay-clause-value : goal.returns-in-Overlay-clause-value
returns-in-Overlay-clause-value g c = c.combine_packed_each-in-Overlay.ensures.value ∙ ap (λ m. map (blend_of g.row.MAX m c.args.s) (pixels_of g.row.MAX c.args.d.now)) (sym c.in-Overlay.is)

pub combine_packed_each-requires-in-LinearLight : goal.combine_packed_each-requires-in-LinearLight
combine_packed_each-requires-in-LinearLight g c = (omega arith, (c.requires.depth, (c.requires.destination, λ p q h k. blend_premultiplied g.row.MAX mode.LinearLight p q c.requires.depth h k)))

pub returns-in-LinearLight-clause-value : goal.returns-in-LinearLight-clause-value
returns-in-LinearLight-clause-value g c = c.combine_packed_each-in-LinearLight.ensures.value ∙ ap (λ m. map (blend_of g.row.MAX m c.args.s) (pixels_of g.row.MAX c.args.d.now)) (sym c.in-LinearLight.is)

pub combine_packed_each-requires-in-PinLight : goal.combine_packed_each-requires-in-PinLight
combine_packed_each-requires-in-PinLight g c = (omega arith, (c.requires.depth, (c.requires.destination, λ p q h k. blend_premultiplied g.row.MAX mode.PinLight p q c.requires.depth h k)))

pub returns-in-PinLight-clause-value : goal.returns-in-PinLight-clause-value
returns-in-PinLight-clause-value g c = c.combine_packed_each-in-PinLight.ensures.value ∙ ap (λ m. map (blend_of g.row.MAX m c.args.s) (pixels_of g.row.MAX c.args.d.now)) (sym c.in-PinLight.is)

pub combine_packed_each-requires-in-HardMix : goal.combine_packed_each-requires-in-HardMix
combine_packed_each-requires-in-HardMix g c = (omega arith, (c.requires.depth, (c.requires.destination, λ p q h k. blend_premultiplied g.row.MAX mode.HardMix p q c.requires.depth h k)))

pub returns-in-HardMix-clause-value : goal.returns-in-HardMix-clause-value
returns-in-HardMix-clause-value g c = c.combine_packed_each-in-HardMix.ensures.value ∙ ap (λ m. map (blend_of g.row.MAX m c.args.s) (pixels_of g.row.MAX c.args.d.now)) (sym c.in-HardMix.is)

pub combine_bytes_each-requires : goal.combine_bytes_each-requires
combine_bytes_each-requires g c = (omega arith, (c.requires.depth, (c.requires.destination, λ p q h k. blend_premultiplied g.row.MAX mode.ColorDodge p q c.requires.depth h k)))

pub returns-in-ColorDodge-clause-value : goal.returns-in-ColorDodge-clause-value
returns-in-ColorDodge-clause-value g c = c.combine_bytes_each.ensures.value ∙ ap (λ m. map (blend_of g.row.MAX m c.args.s) (pixels_of g.row.MAX c.args.d.now)) (sym c.in-ColorDodge.is)

pub combine_bytes_each-requires-in-ColorBurn : goal.combine_bytes_each-requires-in-ColorBurn
combine_bytes_each-requires-in-ColorBurn g c = (omega arith, (c.requires.depth, (c.requires.destination, λ p q h k. blend_premultiplied g.row.MAX mode.ColorBurn p q c.requires.depth h k)))

pub returns-in-ColorBurn-clause-value : goal.returns-in-ColorBurn-clause-value
returns-in-ColorBurn-clause-value g c = c.combine_bytes_each-in-ColorBurn.ensures.value ∙ ap (λ m. map (blend_of g.row.MAX m c.args.s) (pixels_of g.row.MAX c.args.d.now)) (sym c.in-ColorBurn.is)

pub returns-in-StencilAlpha-clause-value : goal.returns-in-StencilAlpha-clause-value
returns-in-StencilAlpha-clause-value g c = c.combine_packed_each-in-StencilAlpha.ensures.value ∙ ap (λ m. map (blend_of g.row.MAX m c.args.s) (pixels_of g.row.MAX c.args.d.now)) (sym c.in-StencilAlpha.is)

pub returns-in-SilhouetteAlpha-clause-value : goal.returns-in-SilhouetteAlpha-clause-value
returns-in-SilhouetteAlpha-clause-value g c = c.combine_packed_each-in-SilhouetteAlpha.ensures.value ∙ ap (λ m. map (blend_of g.row.MAX m c.args.s) (pixels_of g.row.MAX c.args.d.now)) (sym c.in-SilhouetteAlpha.is)

pub returns-in-StencilLuma-clause-value : goal.returns-in-StencilLuma-clause-value
returns-in-StencilLuma-clause-value g c = c.combine_packed_each-in-StencilLuma.ensures.value ∙ ap (λ m. map (blend_of g.row.MAX m c.args.s) (pixels_of g.row.MAX c.args.d.now)) (sym c.in-StencilLuma.is)

pub returns-in-SilhouetteLuma-clause-value : goal.returns-in-SilhouetteLuma-clause-value
returns-in-SilhouetteLuma-clause-value g c = c.combine_packed_each-in-SilhouetteLuma.ensures.value ∙ ap (λ m. map (blend_of g.row.MAX m c.args.s) (pixels_of g.row.MAX c.args.d.now)) (sym c.in-SilhouetteLuma.is)
