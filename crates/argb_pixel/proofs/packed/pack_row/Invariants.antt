use Rattle.std.proofs.Common.{◌≡◌, ◌*◌, drop}
use Rattle.argb_pixel.specs.Packed.{pixel_size}
use Rattle.argb_pixel.proofs.Filled.{Row}
use Rattle.argb_pixel.proofs.packed.pack_row.Given as goal

-- the pixels before the place are written
abbrev pub invariant-loop-pixel : goal.invariant-loop-pixel
invariant-loop-pixel g l = record {
  filled : Row g.row.MAX l.row l.into l.at (drop l.pixel-index l.row);
  place : l.at ≡ l.pixel-index * pixel_size g.row.MAX;
}
