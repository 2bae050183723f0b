use Rattle.std.proofs.Common.{ap, ◌∙◌, set, get_or}
use Rattle.std.proofs.lemmas.List.Edits.{map_over_more}
use Rattle.argb_pixel.proofs.combine.combine_each.Goals as goal

pub loop-pixel-preserved : goal.loop-pixel-preserved
loop-pixel-preserved g c =
    let row = c.loop-pixel.destination in
    let at = c.loop-pixel.pixel-index in
    let was = c.pixel-item.result in
    ap (set row at) c.combine.ensures
    ∙ map_over_more (g.C.Combine.combined c.args.source) c.args.destination.now row at (get_or row at was) c.loop-pixel-test.true c.loop-pixel.invariant (ap (get_or row at) c.pixel-item.is)
