use Rattle.std.proofs.Common.{◌≡◌, ◌++◌, map, take, drop}
use Rattle.fx_color.proofs.recolor.recolor_each.Given as goal

-- those before the place are done, and the others are as they were
abbrev pub invariant-loop-pixel : goal.invariant-loop-pixel
invariant-loop-pixel g l = l.row ≡ map (g.R.Recolor.recolored l.rule) (take l.pixel-index l.fn.row) ++ drop l.pixel-index l.fn.row
