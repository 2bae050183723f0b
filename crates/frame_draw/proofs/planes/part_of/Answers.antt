use Rattle.std.proofs.Common.{◌∙◌, ap, subst, rules}
use Rattle.geom_rect.specs.declared.rect.Rect.{Rect}
use Rattle.geom_rect.specs.Rect.{Has, IsWithin}
use Rattle.frame_draw.specs.Areas.{area_in}
use Rattle.frame_draw.proofs.Areas.{area_inside, part_ok}
use Rattle.frame_draw.proofs.planes.part_of.Goals as goal

pub crop-requires : goal.crop-requires
crop-requires g c =
    let inside : IsWithin c.area_in.result c.args.world.now.part = λ x y h.
    subst (λ (r : Rect). Has r x y) c.part.ensures.value (area_inside c.part.result c.args.request x y (subst (λ (r : Rect). Has r x y) c.area_in.ensures h)) in
    search (rules, inside)

pub returns : goal.returns
returns g c =
    part_ok c.crop.result c.args.world.now c.args.request c.area_in.result c.requires (c.area_in.ensures ∙ ap (λ (r : Rect). area_in r c.args.request) c.part.ensures.value) c.crop.ensures.extent c.crop.ensures.part c.crop.ensures.copied
