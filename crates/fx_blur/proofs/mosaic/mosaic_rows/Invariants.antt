use Rattle.std.proofs.Common.{◌≡◌, length}
use Rattle.argb_world.specs.Picture.{SameExtentAndPart}
use Rattle.comp_stack.specs.Layers.{plane_of}
use Rattle.fx_color.proofs.RowsDrawn.{AreDrawnTo}
use Rattle.fx_blur.specs.Mosaic.{mosaic_at}
use Rattle.fx_blur.specs.Columns.{ServesBand}
use Rattle.fx_blur.proofs.mosaic.mosaic_rows.Given as goal

abbrev pub invariant-rows : goal.invariant-rows
invariant-rows g l = record {
  frame : SameExtentAndPart l.fn.target l.target;
  so_far : AreDrawnTo (mosaic_at l.size (plane_of l.input)) l.fn.target.part l.k l.target;
  serves : ServesBand (mosaic_at l.size (plane_of l.input)) l.fn.target.part.left l.band.low l.band.high l.into;
  long : length l.columns ≡ length l.fn.columns;
  bytes : length l.row ≡ length l.fn.row;
  pixels : length l.into ≡ length l.fn.into;
}
