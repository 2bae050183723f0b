use Rattle.std.proofs.Common.{◌∙◌, ap}
use Rattle.track_matte.specs.declared.matte.Matte.{Matte}
use Rattle.track_matte.specs.Mattes.{matted}
use Rattle.track_matte.proofs.Unchanged.{zip2_leaves, none_leaves}
use Rattle.track_matte.proofs.matte.apply_row.Goals as goal

pub returns-in-None : goal.returns-in-None
returns-in-None g c = zip2_leaves (matted g.row.MAX c.args.kind) c.args.q.now c.args.p.now (λ q p. ap (λ (kind : Matte). matted g.row.MAX kind q p) c.in-None.is ∙ none_leaves g.row.MAX q p c.requires.depth) c.requires.long
