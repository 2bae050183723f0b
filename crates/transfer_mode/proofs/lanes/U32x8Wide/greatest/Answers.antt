use Rattle.std.proofs.Common.{ltb, ap, max, ◌∙◌, w32}
use lib.Lanes.{sel_l}
use Rattle.std.proofs.lemmas.Simd.{tops_compared}
use Rattle.transfer_mode.proofs.Eights.{sel_second, greatest_is}
use Rattle.transfer_mode.proofs.lanes.U32x8Wide.greatest.Goals as goal

pub returns : goal.returns
returns c = ap (λ ms. sel_l ms c.args.other c.args.self) (tops_compared w32 ltb c.args.self c.args.other) ∙ sel_second ltb max greatest_is c.args.self c.args.other
