use Rattle.argb_pixel.specs.Packed.{pixels_of}
use Rattle.fx_blur.specs.Columns.{minus}
use Rattle.fx_blur.proofs.Each.{AreMade}
use Rattle.fx_blur.proofs.columns.take_row.Given as goal

abbrev pub invariant-loop-i : goal.invariant-loop-i
invariant-loop-i g l = AreMade minus l.fn.columns (pixels_of g.row.MAX l.row) l.columns l.i
