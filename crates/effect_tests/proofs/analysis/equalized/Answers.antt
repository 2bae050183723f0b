use Rattle.std.proofs.Common.{◌≤◌, refl, inl, sym, subst, ◌∙◌, arith}
use Rattle.geom_rect.specs.declared.rect.Rect.{Rect}
use Rattle.geom_rect.specs.Rect.{area_of}
use Rattle.argb_world.specs.Picture.{greatest_part}
use Rattle.comp_stack.specs.Layers.{plane_of}
use Rattle.fx_analysis.specs.Counts.{AreCounts}
use Rattle.fx_analysis.proofs.Given.{plane_counts}
use Rattle.effect_tests.proofs.analysis.equalized.Goals as goal

pub equalize_world-requires : goal.equalize_world-requires
equalize_world-requires c =
    let few = subst (λ (r : Rect). area_of r ≤ greatest_part) (c.part-part.ensures.value ∙ c.requires) c.part-part.ensures.bound in
    let counts = subst AreCounts (sym (c.deref.ensures.value ∙ c.in_ok-counts.ensures)) (plane_counts (plane_of c.args.input.now) few) in
    (omega arith, (inl refl, counts))
