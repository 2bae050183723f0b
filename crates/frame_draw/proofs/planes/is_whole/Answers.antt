use Rattle.std.proofs.Common.{◌∙◌, subst, sym}
use Rattle.geom_rect.specs.Rect.{IsWithin}
use Rattle.geom_rect.specs.declared.rect.Rect.{Rect}
use Rattle.frame_draw.proofs.planes.is_whole.Goals as goal

pub returns-clause-inside : goal.returns-clause-inside
returns-clause-inside g c = subst (λ (r : Rect). IsWithin r c.args.world.now.extent) c.part.ensures.value c.part.ensures.inside

pub returns-clause-whole : goal.returns-clause-whole
returns-clause-whole g c =
    let same = c.same_sides.ensures in
    (λ t. sym c.part.ensures.value ∙ same.0 t ∙ c.extent.ensures, λ e. same.1 (c.part.ensures.value ∙ e ∙ sym c.extent.ensures))
