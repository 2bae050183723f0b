use Rattle.std.proofs.Common.{List, ℕ, ap, ◌∙◌}
use Rattle.std.proofs.lemmas.Result.{on_ok_weaker}
use Rattle.argb_world.specs.Picture.{at}
use Rattle.fx_analysis.specs.Counts.{scaled_by}
use Rattle.fx_analysis.proofs.Tables.{relit_same}
use Rattle.fx_analysis.proofs.deflicker.deflicker_world.Goals as goal

pub returns-clause-drawn : goal.returns-clause-drawn
returns-clause-drawn g c =
    let from = c.args.from.now in
    on_ok_weaker c.recolor_world.result
    (λ shows x y h. shows x y h ∙ ap (λ (table : List ℕ). scaled_by table (at from x y)) c.in_ok-rule.ensures
    ∙ relit_same c.args.all.luma c.args.all.alpha c.args.middle.luma c.args.middle.alpha g.row.MAX c.scale_between-times.result.0 c.scale_between-times.result.1 (at from x y)
    (c.part-part.ensures.pixels x y) c.scale_between-times.ensures.times c.scale_between-times.ensures.over)
    c.recolor_world.ensures.drawn
