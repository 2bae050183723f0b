use Rattle.std.proofs.Common.{subst, ◌∙◌}
use Rattle.std.proofs.lemmas.Result.{on_ok_weaker}
use Rattle.geom_rect.specs.declared.rect.Rect.{Rect}
use Rattle.geom_rect.specs.Rect.{IsWithin}
use Rattle.project_model.specs.Effects.{use_of}
use Rattle.effect_api.specs.Checked.{planes_of, sums_in}
use Rattle.effect_api.specs.Laws.{each_point_shown}
use Rattle.fx_analysis.specs.Analysis.{adjusted}
use Rattle.fx_analysis.specs.Laws.{adjusted_clear}
use Rattle.fx_analysis.proofs.draw.draw_analysis.Goals as goal

pub returns-clause-drawn : goal.returns-clause-drawn
returns-clause-drawn g c =
    let fx = use_of c.args.fx.now in
    let sums = sums_in c.args.sums.now in
    let input = c.checkout_want-input.result.now in
    let inside = subst (λ (r : Rect). IsWithin r input.extent) c.part-part.ensures.value c.part-part.ensures.inside in
    on_ok_weaker c.draw_adjusted.result
    (λ shows x y h. shows x y h
    ∙ each_point_shown (adjusted c.args.kind fx c.args.at sums) (adjusted_clear c.args.kind fx c.args.at sums) input inside (planes_of c.args.pixels.now.pairs) c.checkout_want-input.ensures.plane x y)
    c.draw_adjusted.ensures.drawn
