use Rattle.std.proofs.Common.{◌-◌, ◌≤◌, map}
use Rattle.argb_world.specs.Picture.{SameExtentAndPart, StaysOffRow}
use Rattle.comp_stack.specs.Layers.{layer_of}
use Rattle.comp_stack.proofs.Grounds.{IsStackedTo}
use Rattle.comp_stack.proofs.draw.stack_row.Given as goal

-- the columns before are laid
abbrev pub invariant-chunks : goal.invariant-chunks
invariant-chunks g l = record {
  frame : SameExtentAndPart l.fn.ground l.ground;
  so_far : IsStackedTo g.row.MAX (map layer_of l.layers) l.fn.ground.part l.y l.done l.fn.ground l.ground;
  others : StaysOffRow l.y l.fn.ground l.ground;
  within : l.done ≤ l.width;
}

abbrev pub decreases-chunks : goal.decreases-chunks
decreases-chunks g l = l.width - l.done
