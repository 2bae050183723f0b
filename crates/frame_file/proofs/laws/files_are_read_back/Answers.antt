use Rattle.frame_file.proofs.ReadBack.{reads}
use Rattle.frame_file.proofs.Unique.{no_other}
use Rattle.frame_file.proofs.laws.files_are_read_back.Goals as goal

pub returns : goal.returns
returns c = record { reads = reads; no_other = no_other }
