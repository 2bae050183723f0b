use Rattle.std.proofs.Common.{arith}
use Rattle.argb_pixel.specs.Packed.{pixels_of}
use Rattle.comp_stack.proofs.Sources.{scaled_whole}
use Rattle.comp_stack.proofs.source.scale_row.Goals as goal

pub returns-else-opacity-lt10000-clause-pixels : goal.returns-else-opacity-lt10000-clause-pixels
returns-else-opacity-lt10000-clause-pixels g c = scaled_whole c.args.opacity (pixels_of g.row.MAX c.args.row.now) (omega (arith, c.if-opacity-lt10000.false, c.requires.part))
