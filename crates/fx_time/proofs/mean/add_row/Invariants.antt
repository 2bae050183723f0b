use Rattle.argb_pixel.specs.Packed.{pixels_of}
use Rattle.fx_blur.specs.Sums.{plus}
use Rattle.fx_blur.proofs.Each.{AreMade}
use Rattle.fx_time.proofs.mean.add_row.Given as goal

abbrev pub invariant-loop-i : goal.invariant-loop-i
invariant-loop-i g l = AreMade plus l.fn.sums (pixels_of g.row.MAX l.row) l.sums l.i
