use Rattle.rational_time.proofs.Numbers.{floor-product}
use Rattle.rational_time.proofs.laws.frames_agree.Goals as goal

pub returns : goal.returns
returns c = floor-product
