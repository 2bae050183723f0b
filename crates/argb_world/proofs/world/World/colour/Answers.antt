use Rattle.argb_world.proofs.Rows.{colour_everywhere}
use Rattle.argb_world.proofs.world.World.colour.Goals as goal

pub returns : goal.returns
returns g c = rw (← c.self.view_is) (colour_everywhere c.self.inside.extent c.self.inside.part c.self.inside.pixels.pixels c.colour.result c.self.invariant.picture.filled c.colour.ensures)
