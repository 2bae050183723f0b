use Rattle.argb_pixel.proofs.Bytes.{packed_and_read}
use Rattle.argb_pixel.proofs.laws.packed_and_read.Goals as goal

pub returns : goal.returns
returns c = packed_and_read
