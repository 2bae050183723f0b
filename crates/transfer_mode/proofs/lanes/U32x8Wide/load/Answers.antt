use Rattle.std.proofs.Common.{ap, ◌∙◌, w8}
use lib.Lanes.{chunk, number_l, digits_l}
use Rattle.std.proofs.lemmas.Simd.{length-chunk, chunk-fits}
use Rattle.transfer_mode.proofs.Eights.{read_16}
use Rattle.transfer_mode.proofs.lanes.U32x8Wide.load.Goals as goal

pub returns : goal.returns
returns c =
    ap (λ v. digits_l 65536 8 (number_l 256 v)) c.exchanged.ensures
    ∙ read_16 (chunk c.args.at 16 c.args.bytes.now) (length-chunk c.args.at 16 c.args.bytes.now c.requires) (chunk-fits w8 c.args.at 16 c.args.bytes.now c.type_inv.bytes)
