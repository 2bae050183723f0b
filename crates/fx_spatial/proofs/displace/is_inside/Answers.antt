use Rattle.std.proofs.Common.{w32}
use Rattle.fx_spatial.proofs.Drawn.{has_is}
use Rattle.fx_spatial.proofs.displace.is_inside.Goals as goal
use Rattle.std.specs.Int.RustNames.{FitsSigned}
use Rattle.std.proofs.lemmas.Int.{to_z-of_z}

pub returns : goal.returns
returns c =
    let x_fits : FitsSigned w32 c.args.x = c.ranges.x in
    let y_fits : FitsSigned w32 c.args.y = c.ranges.y in
    has_is c.has.result c.args.rect.now c.args.x c.args.y (simp to_z-of_z at c.has.ensures)
