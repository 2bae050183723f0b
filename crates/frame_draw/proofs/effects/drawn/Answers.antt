use Rattle.std.proofs.Common.{subst}
use Rattle.geom_rect.specs.declared.rect.Rect.{Rect}
use Rattle.geom_rect.specs.Rect.{IsWithin}
use Rattle.frame_draw.proofs.CheckedOut.{world_plane}
use Rattle.frame_draw.proofs.effects.drawn.Goals as goal

pub returns-clause-plane : goal.returns-clause-plane
returns-clause-plane g c =
    let part = c.part-part.ensures in
    world_plane g.row.MAX c.args.world (subst (λ (r : Rect). IsWithin r c.args.world.extent) part.value part.inside) part.pixels
