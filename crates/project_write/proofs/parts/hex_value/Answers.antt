use Rattle.std.proofs.Common.{arith}
use Rattle.hex.specs.Hex.{IsBytes}
use Rattle.project_write.proofs.PartLemmas.{hex_of}
use Rattle.project_write.proofs.parts.hex_value.Goals as goal

pub returns : goal.returns
returns c =
    let fits : IsBytes c.args.bytes.now = λ i. let f = c.type_inv.bytes i in omega arith in
    hex_of c.args.bytes.now _ _ c.from.ensures c.in_ok-encode.ensures fits
