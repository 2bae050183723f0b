use Rattle.std.proofs.Common.{ltb, ap, min, ◌∙◌, w16}
use lib.Lanes.{sel_l}
use Rattle.std.proofs.lemmas.Simd.{tops_compared}
use Rattle.transfer_mode.proofs.Eights.{sel_first, least_is}
use Rattle.transfer_mode.proofs.lanes.U16x8Wide.least.Goals as goal

pub returns : goal.returns
returns c = ap (λ ms. sel_l ms c.args.self c.args.other) (tops_compared w16 ltb c.args.self c.args.other) ∙ sel_first ltb min least_is c.args.self c.args.other
