use Rattle.std.proofs.Common.{leb, ap, w32}
use lib.Lanes.{sel_l}
use Rattle.std.proofs.lemmas.Simd.{tops_compared}
use Rattle.transfer_mode.proofs.lanes.U32x8Wide.choose.Goals as goal

pub returns : goal.returns
returns c = ap (λ ms. sel_l ms c.args.yes c.args.no) (tops_compared w32 leb c.args.self c.args.other)
