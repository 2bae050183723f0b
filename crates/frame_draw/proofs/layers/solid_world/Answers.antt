use Rattle.frame_draw.proofs.Placing.{solid_ok}
use Rattle.frame_draw.proofs.layers.solid_world.Goals as goal

pub returns : goal.returns
returns g c =
    solid_ok c.solid.result c.args.width c.args.height c.args.colour c.frame_rect.result c.frame_rect.ensures c.solid.ensures.extent c.solid.ensures.part c.solid.ensures.colour
