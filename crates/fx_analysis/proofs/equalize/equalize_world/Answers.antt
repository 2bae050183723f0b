use Rattle.std.proofs.Common.{List, ℕ, ap₂, ◌∙◌}
use Rattle.std.proofs.lemmas.Result.{on_ok_weaker}
use Rattle.argb_world.specs.Picture.{at}
use Rattle.fx_analysis.specs.Counts.{equalized_by}
use Rattle.fx_analysis.proofs.Tables.{equalized_same}
use Rattle.fx_analysis.proofs.equalize.equalize_world.Goals as goal

pub returns-clause-drawn : goal.returns-clause-drawn
returns-clause-drawn g c =
    let from = c.args.from.now in
    on_ok_weaker c.recolor_world.result
    (λ shows x y h. shows x y h ∙ ap₂ (λ (total : ℕ) (up_to : List ℕ). equalized_by total up_to (at from x y)) c.in_ok-rule.ensures.total c.in_ok-rule.ensures.up_to
    ∙ equalized_same g.row.MAX c.args.counts.now (at from x y) (c.part-part.ensures.pixels x y))
    c.recolor_world.ensures.drawn
