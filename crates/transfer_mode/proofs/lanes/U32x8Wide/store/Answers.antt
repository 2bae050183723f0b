use Rattle.std.proofs.Common.{◌++◌, ap, ◌∙◌, arith}
use lib.Lanes.{put_chunk, pick_l, number_l, digits_l}
use Rattle.argb_pixel.specs.Packed.{packed}
use Rattle.std.proofs.lemmas.Simd.{put_chunk_is}
use Rattle.transfer_mode.proofs.Eights.{written_16, pairs_exchanged}
use Rattle.transfer_mode.proofs.lanes.U32x8Wide.store.Goals as goal

pub returns : goal.returns
returns c p q h k e =
    let is = c.exchanged.ensures ∙ ap (λ v. pick_l 0 (digits_l 256 16 (number_l 65536 v)) pairs_exchanged) e ∙ written_16 p q h k in
    ap (put_chunk c.args.at c.args.into.now) is ∙ put_chunk_is c.args.at c.args.into.now (packed 32768 p ++ packed 32768 q) (omega (arith, c.requires))
