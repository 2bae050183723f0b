use Rattle.std.proofs.Common.{ap₂, replicate, ◌*◌, ◌∙◌}
use Rattle.argb_world.proofs.Rows.{at_alike}
use Rattle.argb_world.proofs.world.World.solid.Goals as goal

pub returns-clause-colour : goal.returns-clause-colour
returns-clause-colour g c = λ x y h.
    at_alike c.args.extent c.args.extent c.in_ok-pixels.pixels.pixels c.args.colour x y (c.in_ok-pixels.ensures.pixels ∙ ap₂ (λ w h. replicate (w * h) c.args.colour) c.width.ensures c.height.ensures) h
