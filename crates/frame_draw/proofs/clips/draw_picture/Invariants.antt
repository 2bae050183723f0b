use Rattle.std.proofs.Common.{◌≡◌, ◌≤ℤ◌, pos, length}
use Rattle.argb_world.specs.Picture.{SameExtentAndPart}
use Rattle.frame_draw.specs.Kept.{HasRows}
use Rattle.frame_draw.proofs.clips.draw_picture.Given as goal

-- the rows so far
abbrev pub invariant-loop-y : goal.invariant-loop-y
invariant-loop-y g l = record {
  below : l.fn.world.part.top ≤ℤ pos l.y;
  room : length l.row ≡ length l.fn.row;
  frame : SameExtentAndPart l.fn.world l.world;
  rows : HasRows g.row.MAX l.clip l.picture l.y l.world;
}
