use Rattle.argb_world.proofs.Together.{packed_rows}
use Rattle.argb_world.proofs.laws.packed_rows_are_the_picture.Goals as goal

pub returns : goal.returns
returns c = packed_rows
