use Rattle.std.proofs.Common.{◌∙◌, refl, subst}
use Rattle.geom_rect.specs.declared.rect.Rect.{Rect}
use Rattle.geom_rect.specs.Rect.{IsWithin}
use Rattle.effect_api.specs.Checked.{planes_of}
use Rattle.effect_api.specs.Laws.{each_point_shown}
use Rattle.effect_tests.proofs.wide.WideDraw255.smart_render.Goals as goal

pub returns-clause-drawn : goal.returns-clause-drawn
returns-clause-drawn g c =
    let input = c.checkout_want-input.result.now in
    let inside = subst (λ (r : Rect). IsWithin r input.extent) c.part-part.ensures.value c.part-part.ensures.inside in
    λ x y h. c.copy_from.ensures.copied x y h
    ∙ each_point_shown (λ p. p) refl input inside (planes_of c.args.pixels.now.pairs) c.checkout_want-input.ensures.plane x y
