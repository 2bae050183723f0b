use Rattle.std.proofs.Common.{◌≡◌, ℤ, pos, ◌+ℤ◌, ◌<ℤ◌}
use Rattle.geom_rect.specs.Rect.{Has}
use Rattle.argb_world.specs.Picture.{SameExtentAndPart, at}
use Rattle.argb_world.proofs.world.World.copy_from.Given as goal

-- the rows above are copied
abbrev pub invariant-loop-k : goal.invariant-loop-k
invariant-loop-k g l = record {
  frame : SameExtentAndPart l.fn.self l.self;
  copied : (u v : ℤ) → Has l.fn.self.part u v → v <ℤ (l.fn.self.part.top +ℤ pos l.k) → at l.self u v ≡ at l.from u v;
}
