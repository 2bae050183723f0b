use Rattle.std.proofs.Common.{sym, subst, ◌∙◌}
use Rattle.geom_rect.specs.declared.rect.Rect.{Rect}
use Rattle.geom_rect.specs.Rect.{Has}
use Rattle.comp_stack.specs.Layers.{plane_of}
use Rattle.effect_api.specs.Planes.{IsPlane}
use Rattle.effect_api.proofs.Requested.{four_ok}
use Rattle.effect_tests.proofs.Cropping.{one_colour_is_plane}
use Rattle.effect_tests.proofs.sparing.one_colour.Goals as goal

pub returns-clause-plane : goal.returns-clause-plane
returns-clause-plane c =
    let e = c.solid.ensures in
    four_ok c.solid.result _ _ _ _ (λ world. IsPlane 255 (plane_of world))
    (λ world extent part colour _. one_colour_is_plane 255 world c.args.colour c.requires.colour (part ∙ sym extent) (λ x y h. colour x y (subst (λ (r : Rect). Has r x y) extent h)))
    e.extent e.part e.colour e.part
