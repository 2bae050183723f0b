use Rattle.std.proofs.Common.{◌*ℤ◌, w32, arith, refl}
use Rattle.std.specs.Int.RustNames.{FitsSigned}
use Rattle.std.proofs.lemmas.Int.{to_z-of_z, fits_signed_mul}
use Rattle.fx_spatial.specs.Moved.{abs_within}
use Rattle.fx_spatial.proofs.displace.product.Goals as goal

pub returns : goal.returns
returns c =
    let a_fits : FitsSigned w32 c.args.furthest = c.ranges.furthest in
    let b_fits : FitsSigned w32 c.args.tilt = c.ranges.tilt in
    let fits : FitsSigned w32 (c.args.furthest *ℤ c.args.tilt) = fits_signed_mul w32 c.args.furthest c.args.tilt 1024 32768 (abs_within c.args.furthest 1024 c.requires.furthest.0 c.requires.furthest.1) (abs_within c.args.tilt 32768 c.requires.tilt.0 c.requires.tilt.1) (omega arith) in
    simp to_z-of_z refl
