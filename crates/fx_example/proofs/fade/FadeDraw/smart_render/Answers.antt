use Rattle.std.proofs.Common.{◌≡◌, ℕ, ◌∙◌, ap, subst}
use Rattle.std.proofs.lemmas.Result.{on_ok_weaker}
use Rattle.geom_rect.specs.declared.rect.Rect.{Rect}
use Rattle.geom_rect.specs.Rect.{IsWithin}
use Rattle.argb_pixel.specs.Pixel.{scale_of}
use Rattle.argb_world.specs.Picture.{at}
use Rattle.project_model.specs.Effects.{use_of}
use Rattle.effect_api.specs.Checked.{planes_of}
use Rattle.effect_api.specs.Laws.{each_point_shown}
use Rattle.fx_example.specs.Fade.{faded}
use Rattle.fx_example.specs.Laws.{faded_clear}
use Rattle.fx_example.proofs.fade.FadeDraw.smart_render.Goals as goal

-- the amount is the use's, and the input shows what its plane does
pub returns-clause-drawn : goal.returns-clause-drawn
returns-clause-drawn g c =
    let fx = use_of c.args.fx.now in
    let input = c.checkout_want-input.result.now in
    let inside = subst (λ (r : Rect). IsWithin r input.extent) c.part-part.ensures.value c.part-part.ensures.inside in
    on_ok_weaker c.recolor_world.result
    (λ shows x y h. shows x y h ∙ ap (λ (n : ℕ). scale_of (at input x y) n) c.faded_at.ensures
    ∙ each_point_shown (faded fx c.args.at) (faded_clear fx c.args.at) input inside (planes_of c.args.pixels.now.pairs) c.checkout_want-input.ensures.plane x y)
    c.recolor_world.ensures.drawn
