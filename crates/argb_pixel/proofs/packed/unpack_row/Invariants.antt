use Rattle.std.proofs.Common.{◌≡◌, ◌*◌, ◌++◌, take, drop}
use Rattle.argb_pixel.specs.Packed.{pixel_size, pixels_of, IsPacked}
use Rattle.argb_pixel.proofs.packed.unpack_row.Given as goal

-- the pixels before the place are read
abbrev pub invariant-loop-pixel : goal.invariant-loop-pixel
invariant-loop-pixel g l = record {
  read : l.into ≡ take l.pixel-index (pixels_of g.row.MAX l.bytes) ++ drop l.pixel-index l.fn.into;
  rest : drop l.pixel-index (pixels_of g.row.MAX l.bytes) ≡ pixels_of g.row.MAX (drop l.at l.bytes);
  sound : IsPacked g.row.MAX (drop l.at l.bytes);
  place : l.at ≡ l.pixel-index * pixel_size g.row.MAX;
}
