use Rattle.argb_world.proofs.Rows.{at_premultiplied}
use Rattle.argb_world.proofs.world.World.part.Goals as goal

pub returns-clause-inside : goal.returns-clause-inside
returns-clause-inside g c = rw (← c.self.view_is) c.self.invariant.picture.inside

pub returns-clause-pixels : goal.returns-clause-pixels
returns-clause-pixels g c =
    rw (← c.self.view_is) λ x y.
    at_premultiplied g.row.MAX c.self.inside.extent c.self.inside.part c.self.inside.pixels.pixels x y c.self.invariant.picture.filled c.are_premultiplied.ensures
