use Rattle.std.proofs.Common.{◌≡◌, length, map}
use Rattle.argb_world.specs.Picture.{SameExtentAndPart}
use Rattle.comp_stack.specs.Layers.{layer_of}
use Rattle.comp_stack.proofs.Grounds.{AreStackedTo}
use Rattle.comp_stack.proofs.draw.stack.Given as goal

-- the rows above are laid
abbrev pub invariant-rows : goal.invariant-rows
invariant-rows g l = record {
  frame : SameExtentAndPart l.fn.ground l.ground;
  so_far : AreStackedTo g.row.MAX (map layer_of l.layers) l.fn.ground.part l.k l.fn.ground l.ground;
  into : length l.into ≡ 2048;
  source : length l.source ≡ 2048;
  matte : length l.matte ≡ 2048;
}
