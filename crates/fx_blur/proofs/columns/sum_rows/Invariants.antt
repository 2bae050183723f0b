use Rattle.std.proofs.Common.{◌≡◌, ◌*◌, length}
use Rattle.argb_pixel.specs.Packed.{pixel_size}
use Rattle.argb_world.specs.Picture.{at}
use Rattle.fx_blur.specs.Columns.{AreColumns}
use Rattle.fx_blur.proofs.columns.sum_rows.Given as goal

abbrev pub invariant-loop-j : goal.invariant-loop-j
invariant-loop-j g l = record {
  sums : AreColumns g.row.MAX (at l.from) l.x l.y l.j l.columns;
  room : length l.row ≡ pixel_size g.row.MAX * length l.columns;
}
