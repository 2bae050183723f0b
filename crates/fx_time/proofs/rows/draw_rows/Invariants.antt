use Rattle.std.proofs.Common.{◌≡◌, ◌*◌, length}
use Rattle.geom_rect.specs.Rect.{width_of}
use Rattle.argb_pixel.specs.Packed.{pixel_size}
use Rattle.argb_world.specs.Picture.{SameExtentAndPart}
use Rattle.fx_color.proofs.RowsDrawn.{AreDrawnTo}
use Rattle.fx_time.proofs.rows.draw_rows.Given as goal

abbrev pub invariant-rows : goal.invariant-rows
invariant-rows g l = record {
  frame : SameExtentAndPart l.fn.target l.target;
  so_far : AreDrawnTo (g.R.DrawRow.drawing l.rule) l.fn.target.part l.k l.target;
  more : length l.spare ≡ g.R.DrawRow.room (width_of l.fn.target.part);
  room : length l.into ≡ pixel_size g.row.MAX * width_of l.fn.target.part;
}
