use Rattle.std.proofs.Common.{ap, ◌∙◌, set, get_or}
use Rattle.std.proofs.lemmas.List.Edits.{map_over_more}
use Rattle.fx_color.proofs.recolor.recolor_each.Goals as goal

pub loop-pixel-preserved : goal.loop-pixel-preserved
loop-pixel-preserved g c =
    let row = c.loop-pixel.row in
    let at = c.loop-pixel.pixel-index in
    let was = c.pixel-item.result in
    ap (set row at) c.recolor.ensures
    ∙ map_over_more (g.R.Recolor.recolored c.args.rule.now) c.args.row.now row at (get_or row at was) c.loop-pixel-test.true c.loop-pixel.invariant (ap (get_or row at) c.pixel-item.is)
