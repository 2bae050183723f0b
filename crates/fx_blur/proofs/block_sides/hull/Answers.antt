use Rattle.std.proofs.Common.{arith}
use Rattle.std.proofs.lemmas.Int.{ints, clamps}
use Rattle.geom_rect.proofs.Points.{same_rect}
use Rattle.fx_blur.proofs.block_sides.hull.Goals as goal

pub returns : goal.returns
returns c =
    same_rect _ _ (omega (arith, ints, clamps)) (omega (arith, ints, clamps)) (omega (arith, ints, clamps)) (omega (arith, ints, clamps))
