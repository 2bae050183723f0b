use Rattle.std.proofs.Common.{◌≤ℤ◌, ◌<ℤ◌, w32, rules}
use Rattle.std.specs.Int.RustNames.{FitsSigned}
use Rattle.std.proofs.lemmas.Int.{to_z-of_z}
use Rattle.fx_blur.proofs.mosaic.move_stripe.Goals as goal

pub returns-clause-pixel : goal.returns-clause-pixel
returns-clause-pixel g c =
    let start_fits : FitsSigned w32 c.args.start = c.ranges.start in
    let low_fits : FitsSigned w32 c.args.sides.low = search rules in
    let high_fits : FitsSigned w32 c.args.sides.high = search rules in
    simp to_z-of_z at c.stripe_at.ensures.pixel

pub returns-clause-here : goal.returns-clause-here
returns-clause-here g c =
    let x_fits : FitsSigned w32 c.args.x = c.ranges.x in
    let low : c.stripe_at.result.low ≤ℤ c.args.x = simp to_z-of_z at c.stripe_at.ensures.low in
    let high : c.args.x <ℤ c.stripe_at.result.high = simp to_z-of_z at c.stripe_at.ensures.high in
    returns-clause-pixel g c c.args.x low high
