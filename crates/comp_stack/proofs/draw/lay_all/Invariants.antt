use Rattle.std.proofs.Common.{◌≡◌, ℕ, ◌<◌, ◌≤◌, pos, ◌+ℤ◌, length, map, drop, get_or}
use Rattle.argb_pixel.specs.Pixel.{clear}
use Rattle.argb_pixel.specs.Packed.{pixels_of, IsPacked}
use Rattle.comp_stack.specs.Layers.{layer_of}
use Rattle.comp_stack.specs.Stack.{stack_over}
use Rattle.comp_stack.proofs.draw.lay_all.Given as goal

-- the lower layers are laid
abbrev pub invariant-layers : goal.invariant-layers
invariant-layers g l = record {
  long : length l.into ≡ length l.fn.into;
  packed : IsPacked g.row.MAX l.into;
  laid : (k : ℕ) → k < l.count → get_or (pixels_of g.row.MAX l.into) k clear
      ≡ stack_over g.row.MAX (map layer_of (drop l.at l.layers)) (l.x +ℤ pos k) l.y (get_or (pixels_of g.row.MAX l.fn.into) k clear);
  within : l.at ≤ length l.layers;
}

abbrev pub decreases-layers : goal.decreases-layers
decreases-layers g l = l.at
