use Rattle.std.proofs.Common.{◌≡◌, pos, ◌+ℤ◌, ◌-ℤ◌, length}
use Rattle.argb_world.specs.Picture.{SameExtentAndPart, at}
use Rattle.comp_stack.specs.Layers.{plane_of}
use Rattle.fx_color.proofs.RowsDrawn.{AreDrawnTo}
use Rattle.fx_blur.specs.Blur.{across, blur_at}
use Rattle.fx_blur.specs.Columns.{AreColumns}
use Rattle.fx_blur.proofs.blur.blur_rows.Given as goal

abbrev pub invariant-rows : goal.invariant-rows
invariant-rows g l = record {
  frame : SameExtentAndPart l.fn.target l.target;
  so_far : AreDrawnTo (blur_at l.radius (plane_of l.input)) l.fn.target.part l.k l.target;
  sums : AreColumns g.row.MAX (at l.input) (l.fn.target.part.left -ℤ pos l.radius) ((l.fn.target.part.top +ℤ pos l.k) -ℤ pos l.radius) (across l.radius) l.columns;
  long : length l.columns ≡ length l.fn.columns;
  bytes : length l.row ≡ length l.fn.row;
  pixels : length l.into ≡ length l.fn.into;
}
