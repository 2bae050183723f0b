use Rattle.std.proofs.Common.{inr, sym, ◌∙◌, ap, [], ◌∷◌, arith}
use Rattle.argb_pixel.specs.Pixel.{Argb}
use Rattle.argb_pixel.proofs.Channels.{same_argb}
use Rattle.argb_pixel.proofs.Bytes.{one_16, one_premultiplied}
use Rattle.argb_pixel.proofs.packed.unpack_16.Goals as goal

pub of_channels-requires : goal.of_channels-requires
of_channels-requires g c =
    let is = one_16 c.args.bytes.now c.requires.one ∙ ap (λ (p : Argb). p ∷ []) (sym (same_argb _ _ _ _ _ _ _ _ c.channel.ensures c.channel-2.ensures c.channel-3.ensures c.channel-4.ensures)) in
    (omega arith, (inr c.requires.depth, one_premultiplied 32768 _ _ _ c.requires.depth is c.requires.packed.premultiplied))

pub returns : goal.returns
returns g c =
    let is = one_16 c.args.bytes.now c.requires.one ∙ ap (λ (p : Argb). p ∷ []) (sym (same_argb _ _ _ _ _ _ _ _ c.channel.ensures c.channel-2.ensures c.channel-3.ensures c.channel-4.ensures)) in
    is ∙ ap (λ (p : Argb). p ∷ []) (sym c.of_channels.ensures)
