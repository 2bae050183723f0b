use Rattle.std.proofs.Common.{◌∷◌, [], refl, subst, ◌∙◌}
use Rattle.std.proofs.lemmas.Result.{on_ok_weaker}
use Rattle.geom_rect.specs.declared.rect.Rect.{Rect}
use Rattle.geom_rect.specs.Rect.{IsWithin}
use Rattle.project_model.specs.Effects.{use_of}
use Rattle.comp_stack.specs.Layers.{plane_of}
use Rattle.effect_api.specs.Laws.{each_point_shown}
use Rattle.fx_color.specs.Color.{recoloured}
use Rattle.fx_color.specs.Laws.{recoloured_clear}
use Rattle.fx_color.proofs.by_kind.recolor_use.Goals as goal

pub returns-clause-drawn : goal.returns-clause-drawn
returns-clause-drawn g c =
    let fx = use_of c.args.fx.now in
    let inside = subst (λ (r : Rect). IsWithin r c.args.from.now.extent) c.part-part.ensures.value c.part-part.ensures.inside in
    on_ok_weaker c.recolor_by_kind.result
    (λ shows x y h. shows x y h ∙ each_point_shown (recoloured c.args.kind fx c.args.at) (recoloured_clear c.args.kind fx c.args.at c.requires.kind) c.args.from.now inside (plane_of c.args.from.now ∷ []) refl x y)
    c.recolor_by_kind.ensures.drawn
