use Rattle.std.proofs.Common.{inl, sym, ◌∙◌, ap, [], ◌∷◌, arith}
use Rattle.argb_pixel.specs.Pixel.{Argb}
use Rattle.argb_pixel.proofs.Bytes.{one_8, one_premultiplied}
use Rattle.argb_pixel.proofs.packed.unpack_8.Goals as goal

pub of_channels-requires : goal.of_channels-requires
of_channels-requires g c = (omega arith, (inl c.requires.depth, one_premultiplied 255 _ _ _ c.requires.depth (one_8 c.args.bytes.now c.requires.one) c.requires.packed.premultiplied))

pub returns : goal.returns
returns g c = one_8 c.args.bytes.now c.requires.one ∙ ap (λ (p : Argb). p ∷ []) (sym c.of_channels.ensures)
