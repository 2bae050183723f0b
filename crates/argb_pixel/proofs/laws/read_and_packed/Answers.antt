use Rattle.argb_pixel.proofs.Bytes.{read_and_packed}
use Rattle.argb_pixel.proofs.laws.read_and_packed.Goals as goal

pub returns : goal.returns
returns c = read_and_packed
