use Rattle.std.proofs.Common.{sym, ◌∙◌}
use Rattle.transfer_mode.proofs.Rules.{opaque_hides}
use Rattle.transfer_mode.proofs.transfer.OneOverCombine.combine.Goals as goal

pub returns-then-a : goal.returns-then-a
returns-then-a g c =
    sym (opaque_hides g.row.MAX c.args.s c.args.d c.requires c.a-below.ensures.premultiplied (sym c.a.ensures.value ∙ c.if-a.true))
