use Rattle.std.proofs.Common.{◌≡◌, length}
use Rattle.geom_rect.specs.Rect.{width_of}
use Rattle.argb_world.specs.Picture.{SameExtentAndPart, at}
use Rattle.fx_color.proofs.RowsDrawn.{AreDrawnTo}
use Rattle.fx_color.proofs.rows.recolor_rows.Given as goal

abbrev pub invariant-rows : goal.invariant-rows
invariant-rows g l = record {
  frame : SameExtentAndPart l.fn.target l.target;
  so_far : AreDrawnTo (λ x y. g.R.Recolor.recolored l.rule (at l.from x y)) l.fn.target.part l.k l.target;
  room : length l.into ≡ width_of l.fn.target.part;
}
