use Rattle.std.proofs.Common.{◌≡◌, length}
use Rattle.geom_rect.specs.Rect.{width_of}
use Rattle.argb_world.specs.Picture.{SameExtentAndPart}
use Rattle.fx_color.proofs.RowsDrawn.{AreDrawnTo}
use Rattle.fx_spatial.proofs.rows.draw_each.Given as goal

abbrev pub invariant-rows : goal.invariant-rows
invariant-rows g l = record {
  frame : SameExtentAndPart l.fn.target l.target;
  so_far : AreDrawnTo (g.R.DrawRow.drawing l.rule) l.fn.target.part l.k l.target;
  more : length l.spare ≡ width_of l.fn.target.part;
  room : length l.into ≡ width_of l.fn.target.part;
}
