use Rattle.std.proofs.Common.{subst, sym, ◌∙◌}
use Rattle.geom_rect.specs.declared.rect.Rect.{Rect}
use Rattle.argb_world.specs.Picture.{AgreesOn}
use Rattle.frame_draw.proofs.Areas.{copied_whole}
use Rattle.frame_draw.proofs.planes.whole_world.Goals as goal

pub returns-clause-points : goal.returns-clause-points
returns-clause-points g c =
    let part = c.copy_from.ensures.frame.1 ∙ c.in_ok-whole.ensures.part ∙ c.extent-extent.ensures in
    copied_whole c.args.world c.copy_from.new.self c.is_whole.ensures.inside part (subst (λ (r : Rect). AgreesOn r c.args.world c.copy_from.new.self) (sym c.copy_from.ensures.frame.1) c.copy_from.ensures.copied)
