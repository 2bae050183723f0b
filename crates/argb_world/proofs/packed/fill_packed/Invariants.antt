use Rattle.std.proofs.Common.{◌≡◌, ◌++◌, All, take, drop, length, replicate}
use Rattle.argb_pixel.specs.Pixel.{IsPremultiplied}
use Rattle.argb_pixel.specs.Packed.{pixels_of}
use Rattle.argb_world.proofs.packed.fill_packed.Given as goal

-- the pixels so far
abbrev pub invariant-loop-i : goal.invariant-loop-i
invariant-loop-i g l = record {
  long : length l.into ≡ length l.fn.into;
  pixels : pixels_of g.row.MAX l.into ≡ take l.i (replicate l.count l.colour) ++ drop l.i (pixels_of g.row.MAX l.fn.into);
  premultiplied : All (IsPremultiplied g.row.MAX) (take l.i (replicate l.count l.colour));
}
