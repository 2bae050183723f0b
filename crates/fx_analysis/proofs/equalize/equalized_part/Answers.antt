use Rattle.std.proofs.Common.{◌<◌, ◌≤◌, ◌*◌, ◌/◌, ℕ, sym, subst, arith}
use Rattle.fx_analysis.proofs.Counting.{level_within}
use Rattle.fx_analysis.proofs.Tables.{full_within}
use Rattle.fx_analysis.proofs.equalize.equalized_part.Goals as goal

pub returns-then-a-clause-within : goal.returns-then-a-clause-within
returns-then-a-clause-within g c =
    let rule = c.args.rule.now in
    let low : c.args.c * 255 / g.row.MAX < 256 = level_within c.args.c g.row.MAX (omega (arith, c.if-a.true, c.requires.alpha)) (omega (arith, c.requires.deep, c.requires.colour)) in
    subst (λ (a : ℕ). c.index.result.now ≤ a) (sym c.if-a.true)
    (full_within rule.total g.row.MAX rule.up_to.items rule.full.items (c.args.c * 255 / g.row.MAX) c.index.result.now rule.full_is rule.up_to_within low c.index.ensures)
