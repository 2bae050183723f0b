use Rattle.frame_file.proofs.Packed.{writes_packed_rows}
use Rattle.frame_file.proofs.laws.pictures_are_their_packed_rows.Goals as goal

pub returns : goal.returns
returns c = writes_packed_rows
