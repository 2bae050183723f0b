use Rattle.std.proofs.Common.{w32, arith}
use Rattle.std.specs.Int.RustNames.{FitsSigned}
use Rattle.std.proofs.lemmas.Int.{to_z-of_z}
use Rattle.fx_blur.proofs.mosaic.serve.Goals as goal

pub fill_band-requires : goal.fill_band-requires
fill_band-requires g c =
    let y_fits : FitsSigned w32 c.args.y = c.ranges.y in
    let start_fits : FitsSigned w32 c.args.start = c.ranges.start in (
      omega arith,
      (
        omega arith,
        (
          c.requires.depth,
          (
            c.requires.some,
            (
              c.requires.few,
              (
                simp to_z-of_z c.requires.height,
                (c.requires.bytes, (c.requires.room, simp to_z-of_z c.requires.there)),
              ),
            ),
          ),
        ),
      ),
    )
